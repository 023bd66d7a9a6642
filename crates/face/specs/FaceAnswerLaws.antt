-- What is answered over a head is told as `calls` answers over the record that head and tables show. Assumes nothing.
use Rattle.std.specs.Prelude.{ℕ, ◌≡◌, Bool, true, List}
use Rattle.std.proofs.Common.{◌∙◌}
use Rattle.calls.specs.Answer.{Plan, CallDone, QuietlyDone}
use Rattle.asks.specs.TableAnswer.{Reply, answer_in}
use Rattle.kept.specs.declared.head.Kept.{Kept}
use Rattle.kept.specs.Kept.{is_named}
use Rattle.face.specs.FaceLeft.{CallTold, left_with}
use Rattle.face.specs.FaceLeftLaws.{is-so}
use Rattle.face.specs.FaceAnswer.{answer_told, whole_told, call_answered, answered_alone}

module _ (k : Kept) {t : Bool} (e : t ≡ is_named k) {r : Reply} {x : CallTold} (h : t ≡ true) (w : x ≡ answer_told r) (held next places next_out kept : List ℕ) {p : Plan} where
  pub face-answers : {out out' : List ℕ} → CallDone p out (answer_in r held next places next_out kept) out' → left_with x out' ≡ call_answered k p out
  face-answers {out} {out'} d = is-so k e _ h ((λ i. left_with (w i) out') ∙ (λ i. left_with (whole_told (d.answer i)) (d.bytes i)))

  pub answers-alone : QuietlyDone p (answer_in r held next places next_out kept) → x ≡ answered_alone k p
  answers-alone d = is-so k e _ h (w ∙ (λ i. whole_told (d.answer i)))
