-- What the call that builds a SACK tells: its length and values, and lists of the blocks and duplicates.
use Rattle.std.specs.Prelude.{ℕ, List, [], ◌∷◌, map}
use Rattle.numbers.specs.declared.circle.Tsn.{Tsn}
use Rattle.chunks.specs.declared.sack.Sack.{Sack}
use Rattle.calls.specs.declared.acknowledging.Acknowledged as whole
use Rattle.calls.specs.Acknowledging.{no_sack}
use Rattle.flat.specs.Shown.{association_head}
use Rattle.asks.specs.TableAcknowledging.{SackReply}
use Rattle.kept.specs.declared.head.Kept.{Kept}
use Rattle.kept.specs.Kept.{packed}
use Rattle.face.specs.FaceLeft.{CallTold, call_told_of, CallLeft, left_with, served}

abbrev pub tsn_number : Tsn → ℕ
tsn_number t = t.0

abbrev pub said_told : SackReply → CallTold
said_told r = call_told_of r.number (packed r.head) (r.length ∷ r.sack.point.0 ∷ r.sack.window ∷ r.sack.blocks.count ∷ r.sack.listed ∷ [])

pub record SackSaid : Type 0 where
  pub starts : List ℕ
  pub ends : List ℕ
  pub dups : List ℕ
  pub out : List ℕ

abbrev pub said_in : List ℕ → List ℕ → List ℕ → List ℕ → SackSaid
said_in starts ends dups out = record { starts = starts; ends = ends; dups = dups; out = out }

abbrev pub said_lists : Sack → List ℕ → SackSaid
said_lists s out = said_in s.blocks.starts s.blocks.ends (map tsn_number s.dups) out

abbrev pub whole_said : whole.Acknowledged → List ℕ → CallLeft SackSaid
whole_said a out = left_with (said_told (record { number = a.number; length = a.length; sack = a.sack; head = association_head a.association })) (said_lists a.sack out)

-- where the head is not named no block and no duplicate is said
abbrev pub acknowledged_left : Kept → whole.Acknowledged → List ℕ → List ℕ → CallLeft SackSaid
acknowledged_left k a out' out = served k (whole_said a out') (0 ∷ 0 ∷ 0 ∷ 0 ∷ 0 ∷ []) (said_lists no_sack out)
