use mathlib.Core.Path.{refl}
use Rattle.octets.specs.WritingLaws.{holds-first, then}
use Rattle.packets.specs.HeaderLaws.{seal-none, seal-short, seal-done}
use Rattle.packets.proofs.header.seal.Goals as goal
use Rattle.packets.proofs.header.seal.Goals.{then-n-lt12-via-then-n-lt12, then-n-lt12-via-else-n-lt12+then-out-n}

pub returns-then-n-lt12 : goal.returns-then-n-lt12
returns-then-n-lt12 c =
    elim c.then-n-lt12.branch [
      | then-n-lt12-via-then-n-lt12 w ↦ seal-none _ _ _ w.if-n-lt12.true
      | then-n-lt12-via-else-n-lt12+then-out-n w ↦ seal-short _ _ _ w.if-n-lt12.false w.if-out-n.true
    ]

pub returns : goal.returns
returns c = seal-done c.args.h c.args.n c.args.out.now c.args.n c.if-n-lt12.false c.if-out-n.false refl (then (then (holds-first _ _ c.put16.ensures) 2 _ refl c.put16-2.ensures) 4 _ refl c.put32.ensures) c.packet_crc-crc.ensures c.put_checksum.ensures
