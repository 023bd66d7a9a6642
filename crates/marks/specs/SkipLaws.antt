-- A loop that passes over an element which adds nothing. Assumes nothing.
use Rattle.std.specs.Prelude.{ℕ, ◌+◌, ◌<◌, ◌≡◌, refl, Bool, true, false, List, get_or}
use Rattle.std.proofs.Common.{sym, ap, ◌∙◌, arith, le-ltb}
use Rattle.scans.specs.Scan.{either, Summing, sum_more, Asking, ask-more}
use Rattle.scans.specs.Upto.{larger, Topping, top-more}

pub sum-skip : {A : Type 0} {g : A → ℕ} {b : ℕ} {xs : List A} {n i acc : ℕ} → Summing g b xs n i acc → (d : A) → i < n → g (get_or xs i d) ≡ 0 → Summing g b xs n (i + 1) acc
sum-skip {A} {g} {b} {xs} {n} {i} {acc} w d h e = let z : acc + 0 ≡ acc = omega arith in rw z at (sum_more w d 0 h (sym e) (omega arith))

pub top-skip : {A : Type 0} {g : A → ℕ} {xs : List A} {n i acc : ℕ} → Topping g xs n i acc → (d : A) → i < n → g (get_or xs i d) ≡ 0 → Topping g xs n (i + 1) acc
top-skip {A} {g} {xs} {n} {i} {acc} w d h e = top-more w d acc h (sym (ap (λ (m : ℕ). larger acc m) e ∙ none acc))
  where
    none : (a : ℕ) → larger a 0 ≡ a
    none a = rw (le-ltb a 0 (omega arith))

pub ask-skip : {A : Type 0} {p : A → Bool} {xs : List A} {n i : ℕ} {acc : Bool} → Asking p xs n i acc → (d : A) → i < n → p (get_or xs i d) ≡ false → Asking p xs n (i + 1) acc
ask-skip {A} {p} {xs} {n} {i} {acc} w d h e = ask-more w d acc h (sym (ap (λ (t : Bool). either acc t) e ∙ none acc))
  where
    none : (a : Bool) → either a false ≡ a
    none true = refl
    none false = refl
