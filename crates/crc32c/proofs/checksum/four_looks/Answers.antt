use Rattle.std.proofs.Common.{◌≡◌, ◌+◌, ◌*◌, arith}
use Rattle.crc32c_register.specs.RegisterLaws.{four-looks}
use Rattle.crc32c.proofs.checksum.four_looks.Goals as goal

pub returns : goal.returns
returns c =
    let f = c.args.first in
    let two : 8 + 8 * (f + 1) ≡ 8 + (8 + 8 * f) = omega arith in
    let three : 8 + 8 * (f + 2) ≡ 8 + (8 + (8 + 8 * f)) = omega arith in
    let four : 8 + 8 * (f + 3) ≡ 8 + (8 + (8 + (8 + 8 * f))) = omega arith in
    let all : 32 + 8 * f ≡ 8 + (8 + (8 + (8 + 8 * f))) = omega arith in
    rw (c.look-4.ensures, c.look-3.ensures, c.look-2.ensures, c.look.ensures, two, three, four, all)
    (four-looks (8 * f) c.args.x c.ranges.x.fits)
