-- No two refusals have one number, and none has 0: a number answered tells what was refused.
-- Assumes nothing.
use Rattle.std.specs.Prelude.{ℕ, ◌≡◌, refl, List, [], ◌∷◌, get_or, Result, Ok, Err}
use Rattle.std.proofs.Common.{sym, ap, ◌∙◌, arith}
use Rattle.numbers.specs.declared.refusal.Refusal.{Refusal}
use Rattle.numbers.specs.declared.refusal.Refusal.TheVariants as refusal
use Rattle.numbers.specs.Refusal.{refusal_number, answered_number}

-- each at its number; the last at every number that is none's
abbrev by_number : List Refusal
by_number = refusal.Cookie ∷ refusal.Record ∷ refusal.Size ∷ refusal.Checksum ∷ refusal.Head ∷ refusal.Length ∷ refusal.Bundled ∷ refusal.State ∷ refusal.Opening ∷ refusal.Empty ∷ refusal.Long ∷ refusal.Duplicate ∷ refusal.Wedged ∷ refusal.Far ∷ refusal.Stray ∷ refusal.Stale ∷ refusal.False ∷ refusal.Nothing ∷ refusal.Short ∷ refusal.Message ∷ refusal.Full ∷ refusal.Clashing ∷ refusal.Cookie ∷ refusal.Cookie ∷ refusal.Opposite ∷ []

abbrev refusal_of : ℕ → Refusal
refusal_of n = get_or by_number n refusal.Cookie

again : (r : Refusal) → refusal_of (refusal_number r) ≡ r
again refusal.Record = refl
again refusal.Size = refl
again refusal.Checksum = refl
again refusal.Head = refl
again refusal.Length = refl
again refusal.Bundled = refl
again refusal.State = refl
again refusal.Opening = refl
again refusal.Empty = refl
again refusal.Long = refl
again refusal.Duplicate = refl
again refusal.Wedged = refl
again refusal.Far = refl
again refusal.Stray = refl
again refusal.Stale = refl
again refusal.False = refl
again refusal.Nothing = refl
again refusal.Short = refl
again refusal.Message = refl
again refusal.Full = refl
again refusal.Clashing = refl
again refusal.Opposite = refl
again refusal.Cookie = refl

pub refusals-apart : (r q : Refusal) → refusal_number r ≡ refusal_number q → r ≡ q
refusals-apart r q e = sym (again r) ∙ ap refusal_of e ∙ again q

pub refusal-never-none : (r : Refusal) → refusal_number r ≡ 0 → ⊥
refusal-never-none r e = let same : r ≡ refusal.Cookie = sym (again r) ∙ ap refusal_of e in absurd (omega (arith, sym e ∙ ap refusal_number same))

-- two answers of one number are one
pub answered-apart : (r q : Result Unit Refusal) → answered_number r ≡ answered_number q → r ≡ q
answered-apart (Ok x) (Ok y) e = refl
answered-apart (Ok x) (Err b) e = absurd (refusal-never-none b (sym e))
answered-apart (Err a) (Ok x) e = absurd (refusal-never-none a e)
answered-apart (Err a) (Err b) e = ap Err (refusals-apart a b e)
