-- What rests on the order in which a SACK changes the path (`path_after`, specs/Acknowledge.antt): it stands here, so that an edit of that definition is
-- refused by it. The path stays within its bounds, and the record too; how an accepted SACK ends the count of tries; what the older book leaves. Assumes nothing.
use Rattle.std.specs.Prelude.{◌≡◌, ℕ, ◌<◌, Bool, true, false, List, ◌==◌, nat_lt, ◌-◌, ◌^◌, refl}
use Rattle.std.proofs.Math.Path.{sym, subst}
use Rattle.std.proofs.Common.{ap, ◌∙◌, arith, eqb-true, eq-eqb, lt-ltb}
use Rattle.numbers.specs.declared.circle.Tsn.{Tsn}
use Rattle.numbers.specs.declared.keeping.Blocks.{Blocks}
use Rattle.numbers.specs.Profile.{Profile, rail}
use Rattle.scans.specs.Scan.{pick, count}
use Rattle.scans.specs.Upto.{pick-keeps}
use Rattle.path.specs.Sizes.{Sizes, SizesFair, book_sizes}
use Rattle.path.specs.declared.path.Path.{Path}
use Rattle.path.specs.Path.{path_heard}
use Rattle.path.specs.PathLaws.{PathWithin, grew-keeps, struck-keeps, rested-keeps, ended-keeps, heard-within, grew-tries, heard-tries, struck-tries, rested-tries, ended-tries, ended-control, rested-left, struck-none, unmoved-grew, heard-control}
use Rattle.places.specs.declared.place.Place.{Place}
use Rattle.places.specs.declared.sack.Sack.{Sack}
use Rattle.places.specs.Places.{ahead_of, has_status, missed_all, tallied}
use Rattle.places.specs.Sack.{sack_taken_in}
use Rattle.sending.specs.declared.sending.Sending.{Sending}
use Rattle.sending.specs.declared.acknowledging.Answer.{Answer}
use Rattle.sending.specs.Acknowledge.{judged_point, is_closed_window, probe_answered, path_after, sack_accepted, acknowledged_sending, whole_sack, shut_of, shutdown_point, limit_of, is_moved}
use Rattle.numbers.specs.Numbering.{ring, on}
use Rattle.scans.specs.Each.{All}
use Rattle.sending.specs.SendingBounds.{PlaceFits, Successive, SendingSound}
use Rattle.sending.specs.SendingLaws.{with-flight, accepted-sums}
use Rattle.places.specs.declared.all.Missed.{Missed}
use Rattle.sending.specs.TypedLaws.{acknowledged-whole, shutdown-whole}
use Rattle.sending.specs.AcknowledgeLaws.{Moves, OnCircle, judged-moves, ahead-now, taken-sent, taken-waiting, taken-fit, places-are}
use Rattle.sending.specs.SendingKeptLaws.{SendingKept, whole-kept, sound}

-- ---- cwnd, ssthresh, partial bytes, RTO and tries within their bounds

module _ (z : Sizes) (f : SizesFair z) where
  after-within : (p : Path) (newly : ℕ) (moved struck : Bool) (last : Tsn) (left : Bool) (point : Tsn) → PathWithin z p
      → PathWithin z (path_after z p newly moved struck last left point)
  unfolding path_after
  after-within p newly moved struck last left point w =
      ended-keeps z f _ point (rested-keeps z f _ left (struck-keeps z f _ struck last (grew-keeps z f p newly moved w)))

  answered-within : (p : Path) (k : Sack) → PathWithin z p → PathWithin z (probe_answered p k)
  unfolding probe_answered
  answered-within p k w = pick-keeps (PathWithin z) (is_closed_window k) _ p (heard-within z p w) w

  pub accepted-path : (s : Sending) (k : Sack) → PathWithin z s.path → PathWithin z (sack_accepted z s k).path
  unfolding sack_accepted
  accepted-path s k w = with-flight z _ _ (after-within (probe_answered s.path k) _ _ _ _ _ _ (answered-within s.path k w))

  pub acknowledged-path : (s : Sending) (k : Sack) → PathWithin z s.path → PathWithin z (acknowledged_sending z s k).sending.path
  unfolding acknowledged_sending
  acknowledged-path s k w = pick-keeps (λ (t : Sending). PathWithin z t.path) (judged_point s k == 0) (sack_accepted z s k) s (accepted-path s k w) w

-- ---- the count of tries

after-tries : (z : Sizes) (p : Path) (newly : ℕ) (moved struck : Bool) (last : Tsn) (left : Bool) (point : Tsn)
    → (path_after z p newly moved struck last left point).tries ≡ pick (nat_lt 0 newly) 0 p.tries
unfolding path_after
after-tries z p newly moved struck last left point = ended-tries _ point ∙ (rested-tries _ left ∙ (struck-tries z _ struck last ∙ grew-tries z p newly moved))

answered-tries : (p : Path) (k : Sack) → (probe_answered p k).tries ≡ pick (is_closed_window k) 0 p.tries
unfolding probe_answered
answered-tries p k = go (is_closed_window k)
  where
    go : (t : Bool) → (pick t (path_heard p) p).tries ≡ pick t 0 p.tries
    go true = heard-tries p
    go false = refl

-- an accepted SACK ends it in two ways, and no other
pub accepted-tries : (z : Sizes) (s : Sending) (k : Sack)
    → (sack_accepted z s k).path.tries ≡ pick (nat_lt 0 (sack_taken_in k s.acked s.places).newly) 0 (pick (is_closed_window k) 0 s.path.tries)
unfolding sack_accepted
accepted-tries z s k =
    after-tries z (probe_answered s.path k) _ _ _ _ _ _ ∙ ap (pick (nat_lt 0 (sack_taken_in k s.acked s.places).newly) 0) (answered-tries s.path k)

-- RFC 9260, section 6.1 A: whatever else it says, where less than a full chunk is advertised
pub closed-window-tries : (z : Sizes) (s : Sending) (point : Tsn) (window : ℕ) (blocks : Blocks) → judged_point s (whole_sack point window blocks) ≡ 0 → window < rail.payload
    → (acknowledged_sending z s (whole_sack point window blocks)).sending.path.tries ≡ 0
unfolding acknowledged_sending is_closed_window
closed-window-tries z s point window blocks e h =
    let newly : ℕ = (sack_taken_in (whole_sack point window blocks) s.acked s.places).newly in
    rw (eq-eqb (judged_point s (whole_sack point window blocks)) 0 e)
    (accepted-tries z s (whole_sack point window blocks)
    ∙ (ap (λ (t : Bool). pick (nat_lt 0 newly) 0 (pick t 0 s.path.tries)) (lt-ltb window rail.payload h) ∙ pick-keeps (λ (n : ℕ). n ≡ 0) (nat_lt 0 newly) 0 0 refl refl))

-- ---- the bounds of the record

module _ (z : Sizes) (P : Profile) (f : SizesFair z) (s : Sending) (w : SendingSound z P s) (o : OnCircle s) where
  module _ (k : Sack) (m : Moves s k) where
    pub accepted-sound : SendingSound z P (sack_accepted z s k)
    unfolding sack_accepted
    accepted-sound =
        let limit : ℕ = limit_of s k (sack_taken_in k s.acked s.places).highest in
        let e = sym (places-are z P f s w o k m limit) in
        record {
          path = accepted-path z f s k w.path;
          booked = w.booked;
          summed = accepted-sums z s k;
          fit = subst (All (PlaceFits P)) e (taken-fit z P f s w o k m limit);
          ahead = omega (arith, ahead-now z P f s w o k m, m.2, w.ahead);
          sent = subst (λ (ps : List Place). Successive true k.point s.oldest ps (ahead_of k.point s.next_tsn - 1)) e (taken-sent z P f s w o k m limit);
          waiting = subst (λ (ps : List Place). Successive false k.point s.oldest ps (count (has_status 1) ps)) e (taken-waiting z P f s w o k m limit);
        }

  pub acknowledged-sending-sound : (k : Sack) → k.point.0 < 2 ^ 32 → SendingSound z P (acknowledged_sending z s k).sending
  unfolding acknowledged_sending
  acknowledged-sending-sound k h = go (judged_point s k == 0) refl
    where
      go : (t : Bool) → (judged_point s k == 0) ≡ t → SendingSound z P (pick t (sack_accepted z s k) s)
      go true e = accepted-sound k (judged-moves s k o h (eqb-true (judged_point s k) 0 e))
      go false e = w

  pub shutdown-point-sound : (point : Tsn) → point.0 < 2 ^ 32 → SendingSound z P (shutdown_point z s point).sending
  unfolding shutdown_point
  shutdown-point-sound point h = pick-keeps (λ (a : Answer). SendingSound z P a.sending) (judged_point s (shut_of s point) == 15) _ _ w (acknowledged-sending-sound (shut_of s point) h)

-- ---- the bounds' test

module _ (z : Sizes) (P : Profile) where
  module _ (f : SizesFair z) where
    module _ (s : Sending) (k : SendingKept z P s) where
      pub acknowledged-kept : (v : Sack) → v.point.0 < 2 ^ 32 → SendingKept z P (acknowledged_sending z s v).sending
      acknowledged-kept v h =
          whole-kept z P (acknowledged_sending z s v).sending (acknowledged-whole P s k.whole z v h) (acknowledged-sending-sound z P f s (sound z P f s k) k.whole.typed.circle v h)

      pub shutdown-kept : (point : Tsn) → point.0 < 2 ^ 32 → SendingKept z P (shutdown_point z s point).sending
      shutdown-kept point h =
          whole-kept z P (shutdown_point z s point).sending (shutdown-whole P s k.whole z point h) (shutdown-point-sound z P f s (sound z P f s k) k.whole.typed.circle point h)

-- ---- the older book

-- RFC 4960, section 7.2.2: a SACK that does not move the point leaves cwnd, ssthresh and partial bytes, unless a chunk reaches three misses by it
-- or it leaves nothing outstanding
pub unmoved-after : (p : Path) (newly : ℕ) (last point : Tsn) → (path_after book_sizes p newly false false last true point).control ≡ p.control
unfolding path_after
unmoved-after p newly last point =
    ended-control _ point
    ∙ (ap (λ (q : Path). q.control) (rested-left _)
    ∙ (ap (λ (q : Path). q.control) (struck-none book_sizes _ last)
    ∙ unmoved-grew p newly))

answered-control : (p : Path) (k : Sack) → (probe_answered p k).control ≡ p.control
unfolding probe_answered
answered-control p k = pick-keeps (λ (q : Path). q.control ≡ p.control) (is_closed_window k) _ _ (heard-control p) refl

module _ (s : Sending) (k : Sack) where
  abbrev missed_by : Missed
  missed_by = missed_all s.acked (limit_of s k (sack_taken_in k s.acked s.places).highest) (sack_taken_in k s.acked s.places).places

  pub old-unmoved : is_moved s.acked k.point ≡ false → missed_by.struck ≡ false → (tallied s.acked missed_by.places).left ≡ true
      → (sack_accepted book_sizes s k).path.control ≡ s.path.control
  unfolding sack_accepted
  old-unmoved e f g =
      rw (e, f, g)
      (unmoved-after (probe_answered s.path k) (sack_taken_in k s.acked s.places).newly (record { 0 = on (ring (2 ^ 32)) s.acked.0 (tallied s.acked missed_by.places).last }) k.point
      ∙ answered-control s.path k)
