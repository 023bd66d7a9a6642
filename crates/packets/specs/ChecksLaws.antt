-- What is not answered 2, and of several checks the one that refuses. Assumes nothing.
use Rattle.std.specs.Prelude.{ℕ, ◌%◌, ◌<◌, ◌≤◌, ◌≡◌, refl, Bool, true, false, ◌⊎◌, List, ltb, eqb, length}
use Rattle.std.proofs.Common.{sym, ◌∙◌, inl, inr, arith, ltb-false, eq-eqb, ne_eqb}
use Rattle.scans.specs.Scan.{pick}
use Rattle.scans.specs.Each.{clash}
use Rattle.numbers.specs.declared.refusal.Refusal.{Refusal}
use Rattle.numbers.specs.Refusal.{refusal_number}
use Rattle.numbers.specs.RefusalLaws.{refusal-never-none}
use Rattle.crc32c.specs.Field.{sealed}
use Rattle.packets.specs.Checks.{size_number, sum_number}

pub size-most : (s : List ℕ) → eqb (size_number s) 2 ≡ false → length s ≤ 1472
unfolding size_number
size-most s e = go (ltb (length s) 16) (ltb 1472 (length s)) refl e
  where
    go : (x y : Bool) → ltb 1472 (length s) ≡ y → eqb (pick x 2 (pick y 2 (pick (eqb (length s % 4) 0) 0 2))) 2 ≡ false → length s ≤ 1472
    go true y q h = clash (sym h)
    go false true q h = clash (sym h)
    go false false q h = ltb-false 1472 (length s) q

-- ---- checks that answer one number or none, one behind the other

pub size-or-none : (s : List ℕ) → (size_number s ≡ 0) ⊎ (size_number s ≡ 2)
unfolding size_number
size-or-none s = go (ltb (length s) 16) (ltb 1472 (length s)) (eqb (length s % 4) 0)
  where
    go : (x y z : Bool) → ◌≡◌ {A = ℕ} (pick x 2 (pick y 2 (pick z 0 2))) 0 ⊎ ◌≡◌ {A = ℕ} (pick x 2 (pick y 2 (pick z 0 2))) 2
    go true y z = inr refl
    go false true z = inr refl
    go false false true = inl refl
    go false false false = inr refl

pub sum-or-none : (s : List ℕ) → (sum_number s ≡ 0) ⊎ (sum_number s ≡ 3)
unfolding sum_number
sum-or-none s = go (sealed s)
  where
    go : (x : Bool) → ◌≡◌ {A = ℕ} (pick x 0 3) 0 ⊎ ◌≡◌ {A = ℕ} (pick x 0 3) 3
    go true = inl refl
    go false = inr refl

-- the first that refuses is what is answered; behind one that does not, the others
pub check-refuses : (n x y : ℕ) (r : Refusal) → (x ≡ 0) ⊎ (x ≡ n) → refusal_number r ≡ x → refusal_number r ≡ pick (eqb x n) n y
check-refuses n x y r (inl z) e = absurd (refusal-never-none r (e ∙ z))
check-refuses n x y r (inr z) e = rw (e, z, eq-eqb n n refl)

pub check-passes : (n x y : ℕ) → 0 < n → x ≡ 0 → pick (eqb x n) n y ≡ y
check-passes n x y h z = rw (z, ne_eqb 0 n (λ e. omega arith))
