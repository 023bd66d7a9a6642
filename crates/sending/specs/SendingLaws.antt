-- Laws of the sending side: flight is the sum over its chunks, the path stays within its bounds, and what is refused leaves all. Assumes nothing.
use Rattle.std.specs.Prelude.{◌≡◌, ℕ, zero, suc, ◌<◌, Bool, true, false, List, length, replicate, ◌==◌, nat_eq}
use Rattle.std.proofs.Math.Path.{refl}
use Rattle.std.proofs.Common.{sym, ◌∙◌, arith, eqb-true, ne_eqb}
use Rattle.numbers.specs.declared.circle.Tsn.{Tsn}
use Rattle.numbers.specs.declared.circle.StreamId.{StreamId}
use Rattle.numbers.specs.Profile.{Profile}
use Rattle.scans.specs.Scan.{pick, total}
use Rattle.scans.specs.Upto.{pick-keeps}
use Rattle.path.specs.Sizes.{Sizes, SizesFair}
use Rattle.path.specs.declared.path.Path.{Path}
use Rattle.path.specs.Path.{is_over}
use Rattle.path.specs.PathLaws.{PathWithin, fresh-within, expired-keeps, sampled-within, backed-within, fresh-flight, sampled-flight, backed-flight, heard-flight}
use Rattle.places.specs.declared.place.Place.{Place}
use Rattle.places.specs.declared.sack.Sack.{Sack}
use Rattle.places.specs.Places.{flight_of}
use Rattle.places.specs.PlacesLaws.{tallied-flight, flight-other}
use Rattle.sending.specs.declared.sending.Sending.{Sending}
use Rattle.sending.specs.declared.cutting.Message.{Message}
use Rattle.sending.specs.declared.acknowledging.Answer.{Answer}
use Rattle.sending.specs.declared.expiring.Expiry.{Expiry}
use Rattle.sending.specs.Sending.{fresh_sending, no_place, with_flight, has_outstanding, sending_sampled, sending_backed_off, sending_heard}
use Rattle.sending.specs.Acknowledge.{judged_point, sack_accepted, acknowledged_sending, shut_of, shutdown_point}
use Rattle.sending.specs.Expiry.{overdue, sending_expired}
use Rattle.sending.specs.Carry.{carry-total}
use Rattle.sending.specs.HandIn.{takes, waiting_at, message_laid_out, waited, refusal, handed_in, handed_in_area}
use Rattle.sending.specs.HandInLaws.{takes-so}

-- ---- "flight equal to its sum"

abbrev pub Summed : Sending → Type 0
Summed s = s.path.flight ≡ total flight_of s.places

none-flies : (n : ℕ) → total flight_of (replicate n no_place) ≡ 0
none-flies zero = refl
none-flies (suc n) = rw (flight-other no_place refl, none-flies n)

pub fresh-sums : (z : Sizes) (P : Profile) (t : Tsn) (window m : ℕ) → Summed (fresh_sending z P t window m)
unfolding fresh_sending
fresh-sums z P t window m = fresh-flight z ∙ sym (none-flies P.places)

pub accepted-sums : (z : Sizes) (s : Sending) (k : Sack) → Summed (sack_accepted z s k)
unfolding sack_accepted
accepted-sums z s k = tallied-flight s.acked _

pub acknowledged-sums : (z : Sizes) (s : Sending) (k : Sack) → Summed s → Summed (acknowledged_sending z s k).sending
unfolding acknowledged_sending
acknowledged-sums z s k h = pick-keeps Summed (judged_point s k == 0) (sack_accepted z s k) s (accepted-sums z s k) h

pub shutdown-sums : (z : Sizes) (s : Sending) (point : Tsn) → Summed s → Summed (shutdown_point z s point).sending
unfolding shutdown_point
shutdown-sums z s point h =
    pick-keeps (λ (a : Answer). Summed a.sending) (judged_point s (shut_of s point) == 15) _ _ h (acknowledged-sums z s (shut_of s point) h)

pub overdue-sums : (z : Sizes) (s : Sending) → Summed (overdue z s)
unfolding overdue
overdue-sums z s = tallied-flight s.acked _

pub expired-sums : (z : Sizes) (s : Sending) → Summed s → Summed (sending_expired z s).sending
unfolding sending_expired
expired-sums z s h =
    pick-keeps (λ (a : Expiry). Summed a.sending) (has_outstanding s) _ _
    (pick-keeps (λ (a : Expiry). Summed a.sending) (is_over z s.path) _ _ h (overdue-sums z s))
    h

pub sampled-sums : (z : Sizes) (s : Sending) (sample : ℕ) → Summed s → Summed (sending_sampled z s sample)
unfolding sending_sampled
sampled-sums z s sample h = sampled-flight z s.path sample ∙ h

pub doubled-sums : (z : Sizes) (s : Sending) → Summed s → Summed (sending_backed_off z s)
unfolding sending_backed_off
doubled-sums z s h = backed-flight z s.path ∙ h

pub heard-sums : (s : Sending) → Summed s → Summed (sending_heard s)
unfolding sending_heard
heard-sums s h = heard-flight s.path ∙ h

-- what waits does not fly, nor did the place that it takes
laid-alike : (P : Profile) (m : Message) (n k : ℕ) (p : Place) → flight_of (pick (takes n k p) (waiting_at P m n k) p) ≡ flight_of p
unfolding waiting_at
laid-alike P m n k p = go (takes n k p) refl
  where
    go : (t : Bool) → takes n k p ≡ t → flight_of (pick t (waiting_at P m n k) p) ≡ flight_of p
    go true e =
        let z : p.status ≡ 0 = eqb-true p.status 0 (takes-so n k p e).0 in
        let q : nat_eq p.status 2 ≡ false = rw z in
        flight-other (waiting_at P m n k) refl ∙ sym (flight-other p q)
    go false e = refl

pub waited-sums : (P : Profile) (s : Sending) (len : ℕ) (stream : StreamId) (unordered : Bool) (ppid : ℕ) → Summed s → Summed (waited P s len stream unordered ppid)
unfolding waited message_laid_out
waited-sums P s len stream unordered ppid h = h ∙ sym (carry-total flight_of _ _ (laid-alike P _ _) 0 s.places)

pub handed-sums : (P : Profile) (s : Sending) (len : ℕ) (stream : StreamId) (unordered : Bool) (ppid streams : ℕ) → Summed s → Summed (handed_in P s len stream unordered ppid streams).sending
unfolding handed_in
handed-sums P s len stream unordered ppid streams h =
    pick-keeps Summed (refusal P s len stream streams == 0) _ s (waited-sums P s len stream unordered ppid h) h

-- ---- cwnd, ssthresh, partial bytes, RTO and tries within their bounds

pub with-flight : (z : Sizes) (p : Path) (n : ℕ) → PathWithin z p → PathWithin z (with_flight p n)
with-flight z p n w = record { controlled = w.controlled; clocked = w.clocked; tried = w.tried }

module _ (z : Sizes) (f : SizesFair z) where
  pub fresh-path : (P : Profile) (t : Tsn) (window m : ℕ) → PathWithin z (fresh_sending z P t window m).path
  unfolding fresh_sending
  fresh-path P t window m = fresh-within z f

  pub overdue-path : (s : Sending) → PathWithin z s.path → PathWithin z (overdue z s).path
  unfolding overdue
  overdue-path s w = with-flight z _ _ (expired-keeps z f s.path w)

  pub expired-path : (s : Sending) → PathWithin z s.path → PathWithin z (sending_expired z s).sending.path
  unfolding sending_expired
  expired-path s w =
      pick-keeps (λ (a : Expiry). PathWithin z a.sending.path) (has_outstanding s) _ _
      (pick-keeps (λ (a : Expiry). PathWithin z a.sending.path) (is_over z s.path) _ _ w (overdue-path s w))
      w

  pub sampled-path : (s : Sending) (sample : ℕ) → PathWithin z s.path → PathWithin z (sending_sampled z s sample).path
  unfolding sending_sampled
  sampled-path s sample w = sampled-within z f s.path sample w

  pub doubled-path : (s : Sending) → PathWithin z s.path → PathWithin z (sending_backed_off z s).path
  unfolding sending_backed_off
  doubled-path s w = backed-within z f s.path w

-- ---- what is refused leaves all

pub refused-sack : (z : Sizes) (s : Sending) (k : Sack) → 0 < (acknowledged_sending z s k).number → (acknowledged_sending z s k).sending ≡ s
unfolding acknowledged_sending
refused-sack z s k h = rw (ne_eqb (judged_point s k) 0 (λ q. omega arith))

module _ (P : Profile) (s : Sending) (stream : StreamId) (streams : ℕ) where
  pub refused-message : (len : ℕ) (unordered : Bool) (ppid : ℕ) → 0 < (handed_in P s len stream unordered ppid streams).number
      → (handed_in P s len stream unordered ppid streams).sending ≡ s
  unfolding handed_in
  refused-message len unordered ppid h = rw (ne_eqb (refusal P s len stream streams) 0 (λ q. omega arith))

  pub handed-number : (len : ℕ) (unordered : Bool) (ppid : ℕ) → (handed_in P s len stream unordered ppid streams).number ≡ refusal P s len stream streams
  unfolding handed_in
  handed-number len unordered ppid = refl

  pub refused-area : (area message : List ℕ) → 0 < refusal P s (length message) stream streams → handed_in_area P s area message stream streams ≡ area
  unfolding handed_in_area
  refused-area area message h = rw (ne_eqb (refusal P s (length message) stream streams) 0 (λ q. omega arith))

pub refused-expiry : (z : Sizes) (s : Sending) → (sending_expired z s).number ≡ 7 → (sending_expired z s).sending ≡ s
unfolding sending_expired
refused-expiry z s e = go (has_outstanding s) (is_over z s.path) e
  where
    try : Bool → Bool → Expiry
    try a b = pick a (pick b (record { number = 0; over = true; sending = s }) (record { number = 0; over = false; sending = overdue z s })) (record { number = 7; over = false; sending = s })

    go : (a b : Bool) → (try a b).number ≡ 7 → (try a b).sending ≡ s
    go true true e = refl
    go true false e = let x : ◌≡◌ {A = ℕ} 0 7 = e in absurd (omega arith)
    go false b e = refl
