-- What a call over what C lends has to show. Assumes nothing.
use Rattle.std.specs.Prelude.{◌≡◌, Bool, true, false}
use Rattle.std.proofs.Common.{ap, sym, ◌∙◌}
use Rattle.kept.specs.declared.head.Kept.{Kept}
use Rattle.kept.specs.Kept.{is_named, named}
use Rattle.face.specs.FaceLeft.{CallTold, CallLeft, left_with}

-- what is told, beside what is lent
pub tells : {X : Type 0} {t u : CallTold} {x : X} → t ≡ u → left_with t x ≡ left_with u x
tells {x = x} e = ap (λ t. left_with t x) e

module _ (k : Kept) {t : Bool} (e : t ≡ is_named k) where
  -- of what depends on whether the head is named
  pub is-so : {A : Type 0} {z x : A} (y : A) → t ≡ true → z ≡ x → z ≡ named k x y
  is-so y h w = rw (← e, h) w

  pub is-not : {A : Type 0} {z y : A} (x : A) → t ≡ false → z ≡ y → z ≡ named k x y
  is-not x h w = rw (← e, h) w

  -- the head is named, and of what the call gave all is told
  pub serves : {C X : Type 0} (tell : C → CallLeft X) {c d : C} {l : CallLeft X} (m : CallLeft X) → t ≡ true → c ≡ d → l ≡ tell c → l ≡ named k (tell d) m
  serves tell m h d w = is-so m h (w ∙ ap tell d)

-- two outcomes that a promise allows are one
pub one_left : {X : Type 0} {t u : CallTold} {x y : X} {l : CallLeft X} → left_with t x ≡ l → left_with u y ≡ l → (t ≡ u) × (x ≡ y)
one_left {X} d e = (ap (λ (l : CallLeft X). l.told) (d ∙ sym e), ap (λ (l : CallLeft X). l.lent) (d ∙ sym e))
