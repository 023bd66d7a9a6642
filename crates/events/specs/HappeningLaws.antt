-- What an event that is refused outright has to show. Assumes nothing.
use Rattle.std.specs.Prelude.{ℕ, ◌≡◌, refl, Bool, true, false, List, eqb}
use Rattle.std.proofs.Common.{ap, subst, ◌∙◌, arith, ne_eqb}
use Rattle.std.proofs.lemmas.Bool.{eqb-false}
use Rattle.scans.specs.Scan.{pick}
use Rattle.association.specs.declared.ends.Association.{Association}
use Rattle.association.specs.Bounds.{earlier}
use Rattle.calls.specs.declared.answer.Answer.{Answer}
use Rattle.calls.specs.Answer.{Plan, refusing, quietly, CallDone}
use Rattle.calls.specs.AnswerLaws.{Refused, done_refused}

-- a refusal, and that 19 is one
pub refused-done : (a : Association) {m n : ℕ} {out : List ℕ} {r : Answer} → m ≡ n → (m ≡ 0 → ⊥) → Refused a m r → CallDone (refusing a n) out r out
refused-done a {m} {n} {out} {r} e ne t = subst (λ (p : Plan). CallDone p out r out) (ap (λ (b : Bool). pick b (quietly a) (refusing a n)) (ne_eqb n 0 (λ z. ne (e ∙ z)))) (done_refused a (quietly a) e ne t)

pub stray-refused : (m : ℕ) → earlier m 19 ≡ 0 → ⊥
stray-refused m = go (eqb m 0) refl
  where
    go : (t : Bool) → eqb m 0 ≡ t → pick t 19 m ≡ 0 → ⊥
    go true e z = absurd (omega (arith, z))
    go false e z = eqb-false m 0 e z
