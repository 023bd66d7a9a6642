-- What our own INIT over a head and tables is told as. Assumes nothing.
use Rattle.std.specs.Prelude.{ℕ, ◌≡◌, Bool, true, List}
use Rattle.std.proofs.Common.{◌∙◌}
use Rattle.calls.specs.Answer.{Plan, CallDone}
use Rattle.asks.specs.TableAnswer.{Reply, answer_in}
use Rattle.asks.specs.TableOpening.{Tables, tables_after}
use Rattle.kept.specs.declared.head.Kept.{Kept}
use Rattle.kept.specs.Kept.{is_named}
use Rattle.face.specs.FaceLeft.{CallTold, left_with}
use Rattle.face.specs.FaceLeftLaws.{is-so}
use Rattle.face.specs.FaceAnswer.{answer_told, whole_told}
use Rattle.face.specs.FaceOpening.{associated_lent, associated_left}

pub face-associates : (k : Kept) {t : Bool} → t ≡ is_named k → {r : Reply} {x : CallTold} → t ≡ true → x ≡ answer_told r → (ts : Tables) {ts' : Tables} {p : Plan} {out out' : List ℕ}
    → CallDone p out (answer_in r ts'.held ts'.next ts'.places ts'.next_out ts'.kept) out' → ts' ≡ tables_after r.number ts
    → left_with x (associated_lent ts' out') ≡ associated_left k p (associated_lent ts out)
face-associates k e {r} h w ts {ts'} {out' = out'} d q =
    is-so k e _ h ((λ i. left_with (w i) (associated_lent ts' out')) ∙ (λ i. left_with (answer_told r) (associated_lent (q i) out')) ∙ (λ i. left_with (whole_told (d.answer i)) (associated_lent (tables_after (d.answer i).number ts) (d.bytes i))))
