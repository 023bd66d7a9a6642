use Prim.Native.Nat.{◌*◌, ◌≤◌}
use mathlib.Core.Path.{sym}
use native.Mathlib.Omega.{arith}
use mir.Facts.{Fits-le, Fits-lit}
use Rattle.numbers.specs.Profile.{rail}
use Rattle.scans.specs.Scan.{find-within}
use Rattle.holding.specs.Held.{is_held_free}
use Rattle.tables.specs.HeldWords.{held_of}
use Rattle.tables.specs.HeldWordsLaws.{held-long}
use Rattle.reception.proofs.arrival.keep.Goals as goal

pub overflow_mul-place : goal.overflow_mul-place
overflow_mul-place c =
    let l : 512 * c.in-Some.place ≤ 65536 = omega (arith, find-within is_held_free (held_of rail c.args.words.now) 0 c.in-Some.place (sym c.in-Some.ensures), held-long rail c.args.words.now) in
    Fits-le l (Fits-lit tt)
