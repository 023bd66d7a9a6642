-- A flag as a byte.
use Rattle.std.specs.Prelude.{ℕ, Bool, not, eqb, ltb}

-- 0 is no, and any other byte yes
abbrev pub is_yes : ℕ → Bool
is_yes b = not (eqb b 0)

-- neither 0 nor 1: in a record no flag at all
abbrev pub is_junk : ℕ → Bool
is_junk b = ltb 1 b
