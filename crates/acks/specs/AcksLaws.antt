-- What a SACK, a SHUTDOWN's point and T3 leave over head and words is what the definitions of `sending` have. Assumes nothing.
use Rattle.std.specs.Prelude.{ℕ, ◌*◌, ◌≤◌, Bool, eqb}
use Rattle.std.proofs.Math.Path.{◌≡◌, refl, ap}
use Rattle.std.proofs.Common.{sym, ◌∙◌}
use Rattle.std.proofs.Math.Bool.{true, false}
use mathlib.Core.List.{List, [], map}
use Rattle.std.proofs.Math.ListN.{length}
use Rattle.numbers.specs.declared.circle.Tsn.{Tsn}
use Rattle.numbers.specs.Profile.{Profile}
use Rattle.scans.specs.Scan.{pick}
use Rattle.scans.specs.Upto.{pick-keeps}
use Rattle.path.specs.Sizes.{Sizes}
use Rattle.path.specs.Path as way
use Rattle.places.specs.declared.place.Place.{Place}
use Rattle.places.specs.declared.sack.Sack.{Sack}
use Rattle.places.specs.Places.{has_status, marked_for_resend, missed, missed_all}
use Rattle.places.specs.Sack.{place_settled, sack_taken_in}
use Rattle.places.specs.PlacesLaws.{tallied-flight}
use Rattle.sending.specs.declared.sending.Sending.{Sending}
use Rattle.sending.specs.declared.acknowledging.Answer.{Answer}
use Rattle.sending.specs.declared.expiring.Expiry.{Expiry}
use Rattle.sending.specs.Sending.{has_outstanding}
use Rattle.sending.specs.Acknowledge.{judged_point, limit_of, sack_accepted, acknowledged_sending, shut_of, shutdown_point}
use Rattle.sending.specs.Expiry.{overdue, sending_expired}
use Rattle.sending.specs.SendingTableLaws.{judged-is, limit_is, accepted-is, acknowledged-sending-is, shutdown-is, outstanding-is, overdue-is, expired-is}
use Rattle.tables.specs.PlaceWords.{places_of}
use Rattle.tables.specs.PlaceStates.{states-long}
use Rattle.marks.specs.MarkingLaws.{missing-is, taken-shows, missed-shows, marked-shows}
use Rattle.sender.specs.declared.Sender.{Sender}
use Rattle.tables.specs.OpenLaws.{by-law}
use Rattle.sender.specs.Seen.{sending_shown}
use Rattle.acks.specs.Acks.{Acked, Expired, limit_in, settled_words, accepted_words, accepted_head, acked_head, acked_words, shut_head, shut_words, overdue_words, overdue_head, expired_head, expired_words}

-- the tables tell nothing of the judgement and of the limit
module _ (P : Profile) (h : Sender) (ws ns : List ℕ) where
  judged-at : (k : Sack) → judged_point (sending_shown P h ws ns) k ≡ judged_point (sending_shown P h [] []) k
  judged-at k = judged-is (sending_shown P h ws ns) k ∙ sym (judged-is (sending_shown P h [] []) k)

  limit-at : (k : Sack) (highest : ℕ) → limit_of (sending_shown P h ws ns) k highest ≡ limit_of (sending_shown P h [] []) k highest
  limit-at k highest = limit_is (sending_shown P h ws ns) k highest ∙ sym (limit_is (sending_shown P h [] []) k highest)

  outstanding-at : has_outstanding (sending_shown P h ws ns) ≡ has_outstanding (sending_shown P h ws [])
  outstanding-at = outstanding-is (sending_shown P h ws ns) ∙ sym (outstanding-is (sending_shown P h ws []))

-- the table stays as long as it was
module _ (P : Profile) (h : Sender) (ws : List ℕ) where
  pub acked-long : (k : Sack) → length (acked_words P h ws k) ≡ length ws
  unfolding acked_words accepted_words
  acked-long k =
      pick-keeps (λ (xs : List ℕ). length xs ≡ length ws) (eqb (judged_point (sending_shown P h [] []) k) 0) _ ws
      (states-long P (has_status 0) (missed h.acked (limit_in P h ws k)) (settled_words P ws k) ∙ states-long P (has_status 0) (place_settled k) ws) refl

  pub shut-long : (point : Tsn) → length (shut_words P h ws point) ≡ length ws
  unfolding shut_words
  shut-long point =
      pick-keeps (λ (xs : List ℕ). length xs ≡ length ws) (eqb (judged_point (sending_shown P h [] []) (shut_of (sending_shown P h [] []) point)) 15) ws _ refl (acked-long (shut_of (sending_shown P h [] []) point))

module _ (z : Sizes) (P : Profile) (h : Sender) (ws ns : List ℕ) (l : 8 * P.places ≤ length ws) where
  -- the places after a SACK
  pub accepted-places : (k : Sack) → places_of P (accepted_words P h ws k) ≡ (missed_all h.acked (limit_in P h ws k) (sack_taken_in k h.acked (places_of P ws)).places).places
  unfolding accepted_words
  accepted-places k =
      missed-shows P (settled_words P ws k) (rw (states-long P (has_status 0) (place_settled k) ws) l) h.acked (limit_in P h ws k)
      ∙ ap (λ (ps : List Place). (missed_all h.acked (limit_in P h ws k) ps).places) (taken-shows P ws l k h.acked)

  pub accepted-shows : (k : Sack) → sending_shown P (accepted_head z P h ws k) (accepted_words P h ws k) ns ≡ sack_accepted z (sending_shown P h ws ns) k
  unfolding accepted_head
  accepted-shows k =
      by-law (accepted-is z (sending_shown P h ws ns) k)
      (rw (limit-at P h ws ns k (sack_taken_in k h.acked (places_of P ws)).highest, accepted-places k, taken-shows P ws l k h.acked, missing-is h.acked (limit_in P h ws k) (sack_taken_in k h.acked (places_of P ws)).places))

  pub acked-shows : (k : Sack) → ◌≡◌ {A = Answer} (record { number = (acked_head z P h ws k).number; sending = sending_shown P (acked_head z P h ws k).head (acked_words P h ws k) ns }) (acknowledged_sending z (sending_shown P h ws ns) k)
  unfolding acked_head acked_words
  acked-shows k = by-law (acknowledged-sending-is z (sending_shown P h ws ns) k) (rw (judged-at P h ws ns k) (go (eqb (judged_point (sending_shown P h [] []) k) 0)))
    where
      go : (t : Bool) → ◌≡◌ {A = Answer}
          (record { number = judged_point (sending_shown P h [] []) k; sending = sending_shown P (pick t (accepted_head z P h ws k) h) (pick t (accepted_words P h ws k) ws) ns })
          (record { number = judged_point (sending_shown P h [] []) k; sending = pick t (sack_accepted z (sending_shown P h ws ns) k) (sending_shown P h ws ns) })
      go true = ap (λ (s : Sending). record { number = judged_point (sending_shown P h [] []) k; sending = s }) (accepted-shows k)
      go false = refl

  -- a SHUTDOWN's point
  pub shut-shows : (point : Tsn) → ◌≡◌ {A = Answer} (record { number = (shut_head z P h ws point).number; sending = sending_shown P (shut_head z P h ws point).head (shut_words P h ws point) ns }) (shutdown_point z (sending_shown P h ws ns) point)
  unfolding shut_head shut_words
  shut-shows point =
      by-law (shutdown-is z (sending_shown P h ws ns) point)
      (rw (judged-at P h ws ns (shut_of (sending_shown P h [] []) point)) (go (eqb (judged_point (sending_shown P h [] []) (shut_of (sending_shown P h [] []) point)) 15)))
    where
      go : (t : Bool) → ◌≡◌ {A = Answer}
          (let a : Acked = pick t (record { number = 0; head = h }) (acked_head z P h ws (shut_of (sending_shown P h [] []) point)) in
          record { number = a.number; sending = sending_shown P a.head (pick t ws (acked_words P h ws (shut_of (sending_shown P h [] []) point))) ns })
          (pick t (record { number = 0; sending = sending_shown P h ws ns }) (acknowledged_sending z (sending_shown P h ws ns) (shut_of (sending_shown P h [] []) point)))
      go true = refl
      go false = acked-shows (shut_of (sending_shown P h [] []) point)

  -- T3
  pub overdue-shows : sending_shown P (overdue_head z P h ws) (overdue_words P ws) ns ≡ overdue z (sending_shown P h ws ns)
  unfolding overdue_head overdue_words
  overdue-shows = by-law (overdue-is z (sending_shown P h ws ns)) (rw (marked-shows P ws l, tallied-flight h.acked (map marked_for_resend (places_of P ws))))

  pub expired-shows : ◌≡◌ {A = Expiry} (record { number = (expired_head z P h ws).number; over = (expired_head z P h ws).over; sending = sending_shown P (expired_head z P h ws).head (expired_words z P h ws) ns }) (sending_expired z (sending_shown P h ws ns))
  unfolding expired_head expired_words
  expired-shows = by-law (expired-is z (sending_shown P h ws ns)) (rw (outstanding-at P h ws ns) (go (has_outstanding (sending_shown P h ws [])) (way.is_over z h.path)))
    where
      go : (s t : Bool) → ◌≡◌ {A = Expiry}
          (let e : Expired = pick s (pick t (record { number = 0; over = true; head = h }) (record { number = 0; over = false; head = overdue_head z P h ws })) (record { number = 7; over = false; head = h }) in
          record { number = e.number; over = e.over; sending = sending_shown P e.head (pick s (pick t ws (overdue_words P ws)) ws) ns })
          (pick s (pick t (record { number = 0; over = true; sending = sending_shown P h ws ns }) (record { number = 0; over = false; sending = overdue z (sending_shown P h ws ns) })) (record { number = 7; over = false; sending = sending_shown P h ws ns }))
      go true true = refl
      go true false = ap (λ (s : Sending). record { number = 0; over = false; sending = s }) overdue-shows
      go false t = refl

-- T3 leaves the table as long as it was
pub expired-long : (z : Sizes) (P : Profile) (h : Sender) (ws : List ℕ) → length (expired_words z P h ws) ≡ length ws
unfolding expired_words overdue_words
expired-long z P h ws = go (has_outstanding (sending_shown P h ws [])) (way.is_over z h.path)
  where
    go : (s t : Bool) → length (pick s (pick t ws (overdue_words P ws)) ws) ≡ length ws
    go true true = refl
    go true false = states-long P _ marked_for_resend ws
    go false t = refl
