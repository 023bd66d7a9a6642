-- A SACK, a SHUTDOWN's point and T3 over head and words: exact for any words. `AcksLaws` says that they show what `Acknowledge` and `Expiry` of `sending` have.
use Rattle.std.specs.Prelude.{ℕ, ◌^◌, ◌≡◌, Bool, true, false, List, [], map, eqb, Option, Some, None, Result, Ok, Err}
use Rattle.numbers.specs.declared.circle.Tsn.{Tsn}
use Rattle.numbers.specs.Numbering.{ring, on}
use Rattle.numbers.specs.Profile.{Profile}
use Rattle.numbers.specs.declared.refusal.Refusal.{Refusal}
use Rattle.numbers.specs.Refusal.{refusal_number}
use Rattle.scans.specs.Scan.{pick, total}
use Rattle.path.specs.Sizes.{Sizes}
use Rattle.path.specs.declared.path.Path.{Path}
use Rattle.path.specs.Path.{path_expired, is_over}
use Rattle.places.specs.declared.sack.Sack.{Sack}
use Rattle.places.specs.Places.{has_status, flight_of, marked_for_resend, missed}
use Rattle.places.specs.Sack.{place_settled, sack_taken_in}
use Rattle.sending.specs.Sending.{with_flight, has_outstanding}
use Rattle.sending.specs.Acknowledge.{judged_point, is_moved, limit_of, probe_answered, path_after, shut_of}
use Rattle.tables.specs.PlaceWords.{places_of}
use Rattle.tables.specs.PlaceStates.{states_by}
use Rattle.marks.specs.declared.Missing.{Missing}
use Rattle.marks.specs.MarkingLaws.{never, missing}
use Rattle.sender.specs.declared.Sender.{Sender}
use Rattle.sender.specs.Seen.{sending_shown}

-- below which offset a chunk gets a miss
abbrev pub limit_in : Profile → Sender → List ℕ → Sack → ℕ
limit_in P h ws k = limit_of (sending_shown P h [] []) k (sack_taken_in k h.acked (places_of P ws)).highest

-- freed, acknowledged, outstanding again
abbrev pub settled_words : Profile → List ℕ → Sack → List ℕ
settled_words P ws k = states_by P (has_status 0) (place_settled k) ws

-- then misses
unfoldable pub accepted_words : Profile → Sender → List ℕ → Sack → List ℕ
accepted_words P h ws k = states_by P (has_status 0) (missed h.acked (limit_in P h ws k)) (settled_words P ws k)

-- the head after a SACK that newly acknowledges so many bytes, by what misses left
abbrev pub head_after : Sizes → Sender → Sack → ℕ → Missing → Sender
head_after z h k newly m = record {
  acked = k.point;
  next_tsn = h.next_tsn;
  advertised = k.window;
  oldest = h.oldest;
  path = with_flight (path_after z (probe_answered h.path k) newly (is_moved h.acked k.point) m.struck (record { 0 = on (ring (2 ^ 32)) h.acked.0 m.last }) m.left k.point) m.flight;
  mode = h.mode;
}

unfoldable pub accepted_head : Sizes → Profile → Sender → List ℕ → Sack → Sender
accepted_head z P h ws k =
    head_after z h k (sack_taken_in k h.acked (places_of P ws)).newly (missing h.acked (limit_in P h ws k) (places_of P (settled_words P ws k)))

-- both, step by step
module _ (z : Sizes) (P : Profile) (h : Sender) (ws : List ℕ) (k : Sack) {xs : List ℕ} {highest limit : ℕ}
    (a : highest ≡ (sack_taken_in k h.acked (places_of P ws)).highest) (b : xs ≡ settled_words P ws k) (c : limit ≡ limit_of (sending_shown P h [] []) k highest) where
  pub accepted-words : {ys : List ℕ} → ys ≡ states_by P (has_status 0) (missed h.acked limit) xs → ys ≡ accepted_words P h ws k
  unfolding accepted_words
  accepted-words d = rw (← a, ← c, ← b) d

  pub accepted-head : {newly : ℕ} {moved : Bool} {m : Missing} {last : Tsn} {p q : Path}
      → newly ≡ (sack_taken_in k h.acked (places_of P ws)).newly
      → m ≡ missing h.acked limit (places_of P xs)
      → last ≡ record { 0 = on (ring (2 ^ 32)) h.acked.0 m.last }
      → moved ≡ is_moved h.acked k.point
      → p ≡ probe_answered h.path k
      → q ≡ path_after z p newly moved m.struck last m.left k.point
      → ◌≡◌ {A = Sender} (record { acked = k.point; next_tsn = h.next_tsn; advertised = k.window; oldest = h.oldest; path = with_flight q m.flight; mode = h.mode }) (accepted_head z P h ws k)
  unfolding accepted_head
  accepted-head e f g i o j = rw (← a, ← c, ← b, ← e, ← f, ← g, ← i, ← o, ← j)

-- the number, 0 if none, and the head
pub record Acked : Type 0 where
  pub number : ℕ
  pub head : Sender

-- a refusal leaves the head as it was
abbrev pub acked_of : Sender → Result Sender Refusal → Acked
acked_of h (Ok after) = record { number = 0; head = after }
acked_of h (Err r) = record { number = refusal_number r; head = h }

-- what is stale or false leaves all
unfoldable pub acked_head : Sizes → Profile → Sender → List ℕ → Sack → Acked
acked_head z P h ws k = record { number = judged_point (sending_shown P h [] []) k; head = pick (eqb (judged_point (sending_shown P h [] []) k) 0) (accepted_head z P h ws k) h }

unfoldable pub acked_words : Profile → Sender → List ℕ → Sack → List ℕ
acked_words P h ws k = pick (eqb (judged_point (sending_shown P h [] []) k) 0) (accepted_words P h ws k) ws

-- a SHUTDOWN's point: "if stale, only the state moves": nothing here
unfoldable pub shut_head : Sizes → Profile → Sender → List ℕ → Tsn → Acked
shut_head z P h ws point = pick (eqb (judged_point (sending_shown P h [] []) (shut_of (sending_shown P h [] []) point)) 15) (record { number = 0; head = h }) (acked_head z P h ws (shut_of (sending_shown P h [] []) point))

unfoldable pub shut_words : Profile → Sender → List ℕ → Tsn → List ℕ
shut_words P h ws point = pick (eqb (judged_point (sending_shown P h [] []) (shut_of (sending_shown P h [] []) point)) 15) ws (acked_words P h ws (shut_of (sending_shown P h [] []) point))

-- ---- T3

-- the number, 0 if none; whether the tries were spent; the head
pub record Expired : Type 0 where
  pub number : ℕ
  pub over : Bool
  pub head : Sender

-- spent tries and a refusal leave the head as it was
abbrev pub expired_of : Sender → Result (Option Sender) Refusal → Expired
expired_of h (Ok (Some after)) = record { number = 0; over = false; head = after }
expired_of h (Ok None) = record { number = 0; over = true; head = h }
expired_of h (Err r) = record { number = refusal_number r; over = false; head = h }

unfoldable pub overdue_words : Profile → List ℕ → List ℕ
overdue_words P ws = states_by P never marked_for_resend ws

unfoldable pub overdue_head : Sizes → Profile → Sender → List ℕ → Sender
overdue_head z P h ws = record {
  acked = h.acked;
  next_tsn = h.next_tsn;
  advertised = h.advertised;
  oldest = h.oldest;
  path = with_flight (path_expired z h.path) (total flight_of (map marked_for_resend (places_of P ws)));
  mode = h.mode;
}

unfoldable pub expired_head : Sizes → Profile → Sender → List ℕ → Expired
expired_head z P h ws =
    pick (has_outstanding (sending_shown P h ws []))
    (pick (is_over z h.path) (record { number = 0; over = true; head = h })
    (record { number = 0; over = false; head = overdue_head z P h ws }))
    (record { number = 7; over = false; head = h })

unfoldable pub expired_words : Sizes → Profile → Sender → List ℕ → List ℕ
expired_words z P h ws = pick (has_outstanding (sending_shown P h ws [])) (pick (is_over z h.path) ws (overdue_words P ws)) ws
