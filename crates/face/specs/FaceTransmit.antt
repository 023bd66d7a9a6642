-- What the call that fills a packet tells: its length, whether a chunk goes again, its first and last TSN.
use Rattle.std.specs.Prelude.{ℕ, List, [], ◌∷◌}
use mir.Val.{bool_byte}
use Rattle.asks.specs.TableTransmit.{PacketReply, Dispatch}
use Rattle.kept.specs.declared.head.Kept.{Kept}
use Rattle.kept.specs.Kept.{packed}
use Rattle.face.specs.FaceLeft.{CallTold, call_told_of, CallLeft, left_with, served}

abbrev pub dispatched_told : PacketReply → CallTold
dispatched_told r = call_told_of r.number (packed r.head) (r.length ∷ bool_byte r.resent ∷ r.first.0 ∷ r.last.0 ∷ [])

pub record DispatchedLent : Type 0 where
  pub places : List ℕ
  pub next : List ℕ
  pub out : List ℕ

abbrev pub dispatched_lent : List ℕ → List ℕ → List ℕ → DispatchedLent
dispatched_lent places next out = record { places = places; next = next; out = out }

abbrev pub dispatch_left : Dispatch → CallLeft DispatchedLent
dispatch_left d = left_with (dispatched_told d.answer) (dispatched_lent d.places d.next d.out)

abbrev pub dispatched_left : Kept → Dispatch → DispatchedLent → CallLeft DispatchedLent
dispatched_left k d b = served k (dispatch_left d) (0 ∷ 0 ∷ 0 ∷ 0 ∷ []) b
