-- What holds of a call where its head is named, and of what it leaves where it is not, holds of the call. Assumes nothing.
use Rattle.std.specs.Prelude.{ℕ, ◌<◌, ◌≡◌, refl, Bool, true, false, List, [], ◌∷◌}
use Rattle.std.proofs.Common.{sym, ap, subst, ◌∙◌, arith}
use Rattle.scans.specs.Scan.{pick}
use Rattle.calls.specs.declared.answer.Answer as whole
use Rattle.calls.specs.Answer.{Plan, answer_of, plan_out}
use Rattle.calls.specs.LeftLaws.{PlanLeaves, plan-left-all}
use Rattle.flat.specs.Shown.{association_head}
use Rattle.kept.specs.declared.head.Kept.{Kept}
use Rattle.kept.specs.Kept.{is_named, packed}
use Rattle.kept.specs.KeptLaws.{pack-unpack}
use Rattle.face.specs.FaceLeft.{CallTold, call_told_of, CallLeft, left_with, unserved, served}
use Rattle.face.specs.FaceAnswer.{whole_told, call_answered, answered_alone}
use Rattle.face.specs.Promises.{record_of}

pub served-keeps : {X : Type 0} (Q : CallTold → X → Type 0) (k : Kept) (l : CallLeft X) (zeros : List ℕ) (x : X) {t : CallTold} {y : X}
    → left_with t y ≡ served k l zeros x → (is_named k ≡ true → Q l.told l.lent) → Q (call_told_of 1 k zeros) x → Q t y
served-keeps {X} Q k l zeros x e f g = subst (λ (z : CallLeft X). Q z.told z.lent) (sym e) (go (is_named k) refl)
  where
    go : (b : Bool) → is_named k ≡ b → Q (pick b l (unserved k zeros x)).told (pick b l (unserved k zeros x)).lent
    go true q = f q
    go false q = g

-- of the outcome with the head k and x where what was lent stood
abbrev pub Leaving : {X Y : Type 0} → (X → Y) → Kept → X → CallTold → X → Type 0
Leaving out k x t y = 0 < t.number → (t.kept ≡ k) × (out y ≡ out x)

pub served-leaves : {X Y : Type 0} (out : X → Y) (k : Kept) (l : CallLeft X) (zeros : List ℕ) (x : X) {t : CallTold} {y : X}
    → left_with t y ≡ served k l zeros x → (is_named k ≡ true → Leaving out k x l.told l.lent) → Leaving out k x t y
served-leaves out k l zeros x e f = served-keeps (Leaving out k x) k l zeros x e f (λ h. (refl, refl))

-- a call that goes as planned
module _ (k : Kept) (held next places next_out kept : List ℕ) (p : Plan) (out : List ℕ) (w : PlanLeaves (record_of k held next places next_out kept) p) where
  pub plan-leaves : is_named k ≡ true → 0 < (answer_of p out).number → ((answer_of p out).number ≡ p.number) × (packed (association_head (answer_of p out).association) ≡ k) × (plan_out p out ≡ out)
  plan-leaves n h =
      let l = plan-left-all (record_of k held next places next_out kept) p out w (λ z. omega (arith, z, h)) in
      (ap (λ (r : whole.Answer). r.number) l.0, ap (λ (r : whole.Answer). packed (association_head r.association)) l.0 ∙ pack-unpack k n, l.1)

  pub answered-leaves : {t : CallTold} {exit : List ℕ} → left_with t exit ≡ call_answered k p out → 0 < t.number → (t.kept ≡ k) × (exit ≡ out)
  answered-leaves e =
      served-leaves (λ (x : List ℕ). x) k (left_with (whole_told (answer_of p out)) (plan_out p out)) (0 ∷ 0 ∷ []) out e
      (λ n h. let l = plan-leaves n h in (l.1, l.2))

-- and with no output
pub alone-keeps : (Q : CallTold → Type 0) (k : Kept) (p : Plan) {t : CallTold} → t ≡ answered_alone k p → (is_named k ≡ true → Q (whole_told (answer_of p []))) → Q (call_told_of 1 k (0 ∷ 0 ∷ [])) → Q t
alone-keeps Q k p e f g = subst Q (sym e) (go (is_named k) refl)
  where
    go : (b : Bool) → is_named k ≡ b → Q (pick b (whole_told (answer_of p [])) (call_told_of 1 k (0 ∷ 0 ∷ [])))
    go true q = f q
    go false q = g
