-- What a SACK over a head is told as. Assumes nothing.
use Rattle.std.specs.Prelude.{ℕ, ◌≡◌, Bool, true, List}
use Rattle.std.proofs.Common.{◌∙◌}
use Rattle.calls.specs.declared.acknowledging.Acknowledged as whole
use Rattle.asks.specs.TableAcknowledging.{SackReply, acknowledged_in}
use Rattle.kept.specs.declared.head.Kept.{Kept}
use Rattle.kept.specs.Kept.{is_named}
use Rattle.face.specs.FaceLeft.{CallTold, left_with}
use Rattle.face.specs.FaceLeftLaws.{is-so}
use Rattle.face.specs.FaceAcknowledging.{SackSaid, said_told, said_lists, whole_said, acknowledged_left}

pub face-acknowledges : (k : Kept) {t : Bool} → t ≡ is_named k → {r : SackReply} {x : CallTold} {y : SackSaid} → t ≡ true → x ≡ said_told r → (held next places next_out kept out : List ℕ) {a : whole.Acknowledged} {out' bytes : List ℕ}
    → y ≡ said_lists r.sack out' → (acknowledged_in r held next places next_out kept ≡ a) × (out' ≡ bytes) → left_with x y ≡ acknowledged_left k a bytes out
face-acknowledges k e {r} {y = y} h w held next places next_out kept out v d =
    is-so k e _ h ((λ i. left_with (w i) y) ∙ (λ i. left_with (said_told r) (v i)) ∙ (λ i. whole_said (d.0 i) (d.1 i)))
