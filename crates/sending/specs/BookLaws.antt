-- The book that a record keeps to: nothing that happens changes it, and what it decides is growth, halving and T3 alone. Assumes nothing.
use Rattle.std.specs.Prelude.{◌≡◌, ℕ, ◌≤◌, Bool, true, ◌==◌, refl}
use Rattle.std.proofs.Common.{◌∙◌, le-ltb}
use Rattle.numbers.specs.declared.circle.Tsn.{Tsn}
use Rattle.numbers.specs.declared.circle.StreamId.{StreamId}
use Rattle.numbers.specs.Profile.{Profile}
use Rattle.scans.specs.Upto.{pick-keeps, run-keeps}
use Rattle.path.specs.Sizes.{Sizes, rail_sizes, sizes_of}
use Rattle.path.specs.Path as way
use Rattle.path.specs.PathLaws.{path-same-sampled, same-backed}
use Rattle.places.specs.declared.place.Place.{Place}
use Rattle.places.specs.declared.sack.Sack.{Sack}
use Rattle.places.specs.Places.{is_marked}
use Rattle.sending.specs.declared.sending.Sending.{Sending}
use Rattle.sending.specs.declared.acknowledging.Answer.{Answer}
use Rattle.sending.specs.declared.choosing.Chosen.{Chosen}
use Rattle.sending.specs.declared.expiring.Expiry.{Expiry}
use Rattle.sending.specs.Sending.{fresh_sending, moded, has_outstanding, sending_sampled, sending_backed_off, sending_heard}
use Rattle.sending.specs.SendingBounds.{is_successive, is_bounded, is_sending_within}
use Rattle.sending.specs.Acknowledge.{judged_point, sack_accepted, acknowledged_sending, shut_of, shutdown_point}
use Rattle.sending.specs.Expiry.{overdue, sending_expired}
use Rattle.sending.specs.HandIn.{refusal, waited, handed_in}
use Rattle.sending.specs.Choose.{put, again, first_sent, sent, going, filling, fill_begun, packet_filled}

-- ---- nothing that happens changes it

pub fresh-mode : (z : Sizes) (P : Profile) (t : Tsn) (window m : ℕ) → (fresh_sending z P t window m).mode ≡ m
unfolding fresh_sending
fresh-mode z P t window m = refl

accepted-mode : (z : Sizes) (s : Sending) (k : Sack) → (sack_accepted z s k).mode ≡ s.mode
unfolding sack_accepted
accepted-mode z s k = refl

pub acknowledged-mode : (z : Sizes) (s : Sending) (k : Sack) → (acknowledged_sending z s k).sending.mode ≡ s.mode
unfolding acknowledged_sending
acknowledged-mode z s k = pick-keeps (λ (q : Sending). q.mode ≡ s.mode) (judged_point s k == 0) (sack_accepted z s k) s (accepted-mode z s k) refl

pub shutdown-mode : (z : Sizes) (s : Sending) (point : Tsn) → (shutdown_point z s point).sending.mode ≡ s.mode
unfolding shutdown_point
shutdown-mode z s point =
    pick-keeps (λ (a : Answer). a.sending.mode ≡ s.mode) (judged_point s (shut_of s point) == 15) _ _ refl (acknowledged-mode z s (shut_of s point))

overdue-mode : (z : Sizes) (s : Sending) → (overdue z s).mode ≡ s.mode
unfolding overdue
overdue-mode z s = refl

pub expired-mode : (z : Sizes) (s : Sending) → (sending_expired z s).sending.mode ≡ s.mode
unfolding sending_expired
expired-mode z s =
    pick-keeps (λ (a : Expiry). a.sending.mode ≡ s.mode) (has_outstanding s) _ _
    (pick-keeps (λ (a : Expiry). a.sending.mode ≡ s.mode) (way.is_over z s.path) _ _ refl (overdue-mode z s))
    refl

pub sampled-mode : (z : Sizes) (s : Sending) (sample : ℕ) → (sending_sampled z s sample).mode ≡ s.mode
unfolding sending_sampled
sampled-mode z s sample = refl

pub doubled-mode : (z : Sizes) (s : Sending) → (sending_backed_off z s).mode ≡ s.mode
unfolding sending_backed_off
doubled-mode z s = refl

pub heard-mode : (s : Sending) → (sending_heard s).mode ≡ s.mode
unfolding sending_heard
heard-mode s = refl

waited-mode : (P : Profile) (s : Sending) (len : ℕ) (stream : StreamId) (unordered : Bool) (ppid : ℕ) → (waited P s len stream unordered ppid).mode ≡ s.mode
unfolding waited
waited-mode P s len stream unordered ppid = refl

pub handed-mode : (P : Profile) (s : Sending) (len : ℕ) (stream : StreamId) (unordered : Bool) (ppid streams : ℕ) → (handed_in P s len stream unordered ppid streams).sending.mode ≡ s.mode
unfolding handed_in
handed-mode P s len stream unordered ppid streams =
    pick-keeps (λ (q : Sending). q.mode ≡ s.mode) (refusal P s len stream streams == 0) _ s (waited-mode P s len stream unordered ppid) refl

sent-mode : (P : Profile) (s : Sending) (i : ℕ) (p : Place) → (sent P s i p).mode ≡ s.mode
unfolding sent again first_sent put
sent-mode P s i p = pick-keeps (λ (q : Sending). q.mode ≡ s.mode) (is_marked p) _ _ refl refl

filling-mode : (P : Profile) (m : ℕ) (f : Chosen) → (going f).go ≡ true → f.sending.mode ≡ m → (filling P f (going f).place).sending.mode ≡ m
unfolding filling
filling-mode P m f g h = sent-mode P f.sending (going f).place _ ∙ h

begun-mode : (z : Sizes) (s : Sending) → (fill_begun z s).sending.mode ≡ s.mode
unfolding fill_begun
begun-mode z s = refl

pub filled-mode : (z : Sizes) (P : Profile) (s : Sending) → (packet_filled z P s).sending.mode ≡ s.mode
unfolding packet_filled
filled-mode z P s =
    run-keeps (λ (f : Chosen). f.sending.mode ≡ s.mode) (λ f. (going f).go) (λ f. filling P f (going f).place) (filling-mode P s.mode) z.bundled (fill_begun z s) (begun-mode z s)

-- ---- what it does not decide: the bounds of all else, a sample, RTO doubled, a packet filled

pub blind-within : (z : Sizes) (P : Profile) (s : Sending) (m : ℕ) → m ≤ 1 → s.mode ≤ 1 → is_sending_within z P (moded s m) ≡ is_sending_within z P s
unfolding is_sending_within is_bounded is_successive
blind-within z P s m a b = rw (le-ltb 1 m a, le-ltb 1 s.mode b)

pub same-sampled : (m : ℕ) (s : Sending) (sample : ℕ) → sending_sampled (sizes_of m) s sample ≡ sending_sampled rail_sizes s sample
unfolding sending_sampled
same-sampled m s sample = rw (path-same-sampled m s.path sample)

pub same-doubled : (m : ℕ) (s : Sending) → sending_backed_off (sizes_of m) s ≡ sending_backed_off rail_sizes s
unfolding sending_backed_off
same-doubled m s = rw (same-backed m s.path)

pub same-filled : (m : ℕ) (P : Profile) (s : Sending) → packet_filled (sizes_of m) P s ≡ packet_filled rail_sizes P s
unfolding packet_filled fill_begun
same-filled m P s = refl
