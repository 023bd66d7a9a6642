-- What an arm of a table of bytes says: its key is the byte with the top bit flipped.
-- Assumes nothing.
use Rattle.std.specs.Prelude.{◌≡◌, ℕ, ◌<◌}
use Rattle.std.proofs.Common.{ap, ◌∙◌, lit<}
use Rattle.std.specs.Int.Bits.{bit_xor, xor_self, xor_zero_r}
use Rattle.std.proofs.lemmas.Nat.{xor_lt}
use Rattle.crc32c_register.specs.Register.{computed, bits}
use Rattle.crc32c_register.specs.RegisterLaws.{xor_assoc, bits-computed}
use Rattle.crc32c_register.proofs.Arms.{Spared, arm, last}

-- flipped twice, a bit is as it was
back : (i : ℕ) → bit_xor (bit_xor i 128) 128 ≡ i
back i = xor_assoc i 128 128 ∙ ap (bit_xor i) (xor_self 128) ∙ xor_zero_r i

pub entry : (n i : ℕ) {k : ℕ} → bit_xor i 128 ≡ k → computed n (bit_xor k 128) ≡ bits n i
entry n i e =
    arm (λ (x : ℕ). computed n (bit_xor x 128)) e ∙ ap (computed n) (back i) ∙ bits-computed n i

pub last_entry : (n i : ℕ) → i < 256 → Spared 255 (bit_xor i 128) → computed n (bit_xor 255 128) ≡ bits n i
last_entry n i h s = entry n i (last 255 (bit_xor i 128) s (xor_lt 8 i 128 h (lit< tt)))
