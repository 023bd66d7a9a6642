use Rattle.std.proofs.Common.{◌≡◌, ◌+◌, ◌-◌, ◌/◌, ◌%◌, arith, drop-drop}
use Rattle.octets.specs.Bytes.{be16}
use Rattle.octets.specs.BytesLaws.{laid-there}
use Rattle.octets.proofs.bytes.put16.Goals as goal

pub returns-then-at-out : goal.returns-then-at-out
returns-then-at-out c =
    let z : c.args.at + 2 - c.args.at ≡ 2 = omega arith in
    let high : c.args.v / 256 % 256 ≡ c.args.v / 256 = omega arith in
    rw (c.copy_from_slice.ensures.after, c.to_be_bytes-pair.ensures, z, drop-drop, high)
    (laid-there (be16 c.args.v) c.args.out.now c.args.at (omega arith))
