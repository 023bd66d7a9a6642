-- What an arm of a table says: the number that is matched is the arm's key, and in the last arm none of the keys before it.
-- Assumes nothing.
use Rattle.std.specs.Prelude.{◌≡◌, ℕ, zero, suc, ◌<◌, ◌≤◌}
use Rattle.std.proofs.Common.{sym, ap, arith}

pub arm : (f : ℕ → ℕ) {k x : ℕ} → x ≡ k → f k ≡ f x
arm f e = ap f (sym e)

-- x is none of the numbers below n
abbrev pub Spared : ℕ → ℕ → Type 0
Spared zero x = Unit
Spared (suc n) x = Spared n x × (x ≡ n → ⊥)

past : (n x : ℕ) → Spared n x → n ≤ x
past zero x h = omega arith
past (suc n) x h =
    let i : n ≤ x = past n x h.0 in
    let j : x ≡ n → ⊥ = h.1 in
    omega arith

pub last : (n x : ℕ) → Spared n x → x < suc n → x ≡ n
last n x h l =
    let i : n ≤ x = past n x h in
    omega arith
