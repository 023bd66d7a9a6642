-- How far one number of 32 bits is ahead of another, as a difference that wraps. Assumes nothing.
use Rattle.std.specs.Prelude.{ℕ, ◌+◌, ◌-◌, ◌%◌, ◌<◌, ◌≤◌, ◌≡◌}
use Rattle.std.proofs.Common.{arith, le-leb}
use borrow.Author.Tests.{lt-leb}
use Rattle.std.proofs.Math.Decide.{dec_lt}
use Rattle.numbers.specs.Circle.{steps}

pub order-steps : (a b : ℕ) → a < 4294967296 → b < 4294967296 → (b + (4294967296 - a)) % 4294967296 ≡ steps 4294967296 a b
order-steps a b h k = go (dec_lt b a)
  where
    go : Dec (b < a) → (b + (4294967296 - a)) % 4294967296 ≡ steps 4294967296 a b
    go (yes l) = rw (lt-leb a b l) (omega arith)
    go (no l) = let m : a ≤ b = omega arith in rw (le-leb a b m) (omega arith)
