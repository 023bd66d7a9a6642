use Rattle.std.proofs.Common.{◌≡◌, ◌+◌, ◌-◌, ◌/◌, ◌%◌, arith, drop-drop}
use Rattle.octets.specs.Bytes.{be32}
use Rattle.octets.specs.BytesLaws.{laid-there}
use Rattle.octets.proofs.bytes.put32.Goals as goal

pub returns-then-at-out : goal.returns-then-at-out
returns-then-at-out c =
    let z : c.args.at + 4 - c.args.at ≡ 4 = omega arith in
    let high : c.args.v / 16777216 % 256 ≡ c.args.v / 16777216 = omega arith in
    rw (c.copy_from_slice.ensures.after, c.to_be_bytes-quad.ensures, z, drop-drop, high)
    (laid-there (be32 c.args.v) c.args.out.now c.args.at (omega arith))
