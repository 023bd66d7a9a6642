-- What the calls for messages tell and leave. The head stays.
use Rattle.std.specs.Prelude.{ℕ, List, [], ◌∷◌}
use mir.Val.{bool_byte}
use Rattle.messages.specs.MessageWords.{Handing}
use Rattle.asks.specs.TableMessages.{Handover, MessageReply, Delivery}
use Rattle.kept.specs.declared.head.Kept.{Kept}
use Rattle.face.specs.FaceLeft.{CallTold, call_told_of, CallLeft, left_with, served}

-- ---- handing in: into how many chunks the message was cut
abbrev pub handed_told : Kept → Handing → CallTold
handed_told k r = call_told_of r.number k (r.chunks ∷ [])

pub record HandedLent : Type 0 where
  pub places : List ℕ
  pub area : List ℕ

abbrev pub handed_lent : List ℕ → List ℕ → HandedLent
handed_lent places area = record { places = places; area = area }

abbrev pub handover_left : Kept → Handover → CallLeft HandedLent
handover_left k d = left_with (handed_told k d.answer) (handed_lent d.places d.area)

abbrev pub handed_left : Kept → Handover → HandedLent → CallLeft HandedLent
handed_left k d b = served k (handover_left k d) (0 ∷ []) b

-- ---- taking: length, stream, whether it was out of order, SSN, payload protocol identifier
abbrev pub delivered_told : Kept → MessageReply → CallTold
delivered_told k r = call_told_of r.number k (r.message.length ∷ r.message.stream.0 ∷ bool_byte r.message.unordered ∷ r.message.ssn.0 ∷ r.message.ppid ∷ [])

pub record DeliveredLent : Type 0 where
  pub held : List ℕ
  pub next : List ℕ
  pub out : List ℕ

abbrev pub delivered_lent : List ℕ → List ℕ → List ℕ → DeliveredLent
delivered_lent held next out = record { held = held; next = next; out = out }

abbrev pub delivery_left : Kept → Delivery → CallLeft DeliveredLent
delivery_left k d = left_with (delivered_told k d.answer) (delivered_lent d.held d.next d.out)

abbrev pub delivered_left : Kept → Delivery → DeliveredLent → CallLeft DeliveredLent
delivered_left k d b = served k (delivery_left k d) (0 ∷ 0 ∷ 0 ∷ 0 ∷ 0 ∷ []) b
