-- The vectors of RFC 3720, B.4, and of '123456789', of the definition itself, by computation.
-- Assumes nothing.
use mathlib.Core.Path.{◌≡◌, refl}
use mathlib.Core.List.{List, [], ◌∷◌, reverse}
use Prim.Native.Nat.{ℕ, zero, suc}
use lib.ListN.{replicate}
use Rattle.crc32c_register.specs.Register.{bits, crc_from, crc_of}

-- n numbers from i on
abbrev from : ℕ → ℕ → List ℕ
from zero i = []
from (suc n) i = i ∷ from n (suc i)

zeros : crc_of (replicate 32 0) ≡ 0x8A91_36AA
unfolding crc_of crc_from bits
zeros = refl

ones : crc_of (replicate 32 0xFF) ≡ 0x62A8_AB43
unfolding crc_of crc_from bits
ones = refl

up : crc_of (from 32 0) ≡ 0x46DD_794E
unfolding crc_of crc_from bits
up = refl

down : crc_of (reverse (from 32 0)) ≡ 0x113F_DB5C
unfolding crc_of crc_from bits
down = refl

digits : crc_of (0x31 ∷ 0x32 ∷ 0x33 ∷ 0x34 ∷ 0x35 ∷ 0x36 ∷ 0x37 ∷ 0x38 ∷ 0x39 ∷ []) ≡ 0xE306_9283
unfolding crc_of crc_from bits
digits = refl
