use Rattle.std.proofs.Common.{◌≡◌, ℕ, [], ◌∷◌, ap, ◌∙◌, rules}
use Rattle.std.specs.Int.Bits.{bit_xor}
use Rattle.crc32c_register.specs.Register.{word, crc_from}
use Rattle.crc32c_register.specs.RegisterLaws.{crc-without}
use Rattle.crc32c.proofs.checksum.without.Goals as goal

pub returns : goal.returns
returns c =
    let a = c.args in
    let h = c.ranges in
    let e : c.from_le_bytes.result ≡ word a.b0 a.b1 a.b2 a.b3 = search rules in
    ap (λ (w : ℕ). crc_from (bit_xor a.c w) (a.b0 ∷ a.b1 ∷ a.b2 ∷ a.b3 ∷ [])) e
    ∙ crc-without a.c a.b0 a.b1 a.b2 a.b3 h.b0.fits h.b1.fits h.b2.fits
