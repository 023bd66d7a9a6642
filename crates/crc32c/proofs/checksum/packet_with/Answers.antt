use mathlib.Core.Path.{sym}
use Prim.Native.Nat.{◌≤◌}
use native.Mathlib.Omega.{arith}
use lib.ListN.{length}
use lib.Seq.{length-take-le}
use Rattle.crc32c.proofs.Laws.{crc-zeroed}
use Rattle.crc32c.proofs.checksum.packet_with.Goals as goal

pub slice_bounds-update-end : goal.slice_bounds-update-end
slice_bounds-update-end c = let s = c.args.s.now in
    let h : 12 ≤ length s = c.requires in
    sym (length-take-le 8 s (omega arith))

pub returns : goal.returns
returns c = crc-zeroed
    c.args.s.now
    c.update-a.result
    c.without.result
    c.update.result
    c.requires
    c.update-a.ensures
    c.without.ensures
    c.update.ensures
