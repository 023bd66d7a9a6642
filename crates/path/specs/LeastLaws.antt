-- Caps of sums that stop at a word's top, and how far two numbers are apart. Assumes nothing.
use Rattle.std.specs.Prelude.{ℕ, ◌+◌, ◌-◌, ◌*◌, ◌^◌, ◌<◌, ◌≡◌, min, max}
use Rattle.std.proofs.Common.{arith}
use Rattle.scans.specs.Upto.{smaller, larger, pick_less, min-smaller, max-larger}
use Rattle.path.specs.Clock.{apart}

-- a sum that stops at a word's top, capped below it
pub sum-capped : (a b cap : ℕ) → cap < 2 ^ 32 → min (min (a + b) (2 ^ 32 - 1)) cap ≡ smaller (a + b) cap
sum-capped a b cap h = let e : min (min (a + b) (2 ^ 32 - 1)) cap ≡ min (a + b) cap = omega arith in rw e (min-smaller (a + b) cap)

-- the clock's: twice a number, and a number and four others, kept within bounds
pub twice-capped : (a cap : ℕ) → cap < 2 ^ 32 → min (min (a * 2) (2 ^ 32 - 1)) cap ≡ smaller (2 * a) cap
twice-capped a cap h = let e : min (min (a * 2) (2 ^ 32 - 1)) cap ≡ min (2 * a) cap = omega arith in rw e (min-smaller (2 * a) cap)

pub four-clamped : (s w low cap : ℕ) → cap < 2 ^ 32 → max low (min (min (s + min (w * 4) (2 ^ 32 - 1)) (2 ^ 32 - 1)) cap) ≡ larger (smaller (s + 4 * w) cap) low
four-clamped s w low cap h =
    let e : max low (min (min (s + min (w * 4) (2 ^ 32 - 1)) (2 ^ 32 - 1)) cap) ≡ max (min (s + 4 * w) cap) low = omega arith in
    rw (e, min-smaller (s + 4 * w) cap) (max-larger (smaller (s + 4 * w) cap) low)

pub diff-apart : (a b : ℕ) → (a - b) + (b - a) ≡ apart a b
diff-apart a b = pick_less (λ c. (a - b) + (b - a) ≡ c) a b (b - a) (a - b) (λ h. omega arith) (λ h. omega arith)
