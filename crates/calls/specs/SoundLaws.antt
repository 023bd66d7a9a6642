-- Every call keeps a record within its bounds. Assumes nothing.
use Rattle.std.specs.Prelude.{ℕ, ◌^◌, ◌<◌, ◌≤◌, ◌≡◌, Bool, List, eqb}
use Rattle.std.proofs.Math.Path.{refl}
use Rattle.std.proofs.Math.Bool.{true, false}
use Rattle.std.proofs.Common.{arith, eqb-true}
use Rattle.std.proofs.lemmas.Bool.{eqb-false}
use Rattle.scans.specs.Scan.{pick}
use Rattle.scans.specs.Upto.{smaller-right, pick-keeps}
use Rattle.numbers.specs.declared.circle.StreamId.{StreamId}
use Rattle.numbers.specs.declared.circle.Tsn.{Tsn}
use Rattle.numbers.specs.Numbering.{ring, circles}
use Rattle.numbers.specs.Profile.{rail}
use Rattle.path.specs.Sizes.{rail_sizes, sizes_of}
use Rattle.path.specs.PathLaws.{rail-fair, book-fair}
use Rattle.holding.specs.declared.taking.Answer as took
use Rattle.holding.specs.declared.taking.Answer.TheVariants.{Taken, Nothing, Short}
use Rattle.delivery.specs.ReceivingLaws.{taken-shaped, taken-sound, receiving-told-shaped, told-sound}
use Rattle.sending.specs.SendingKeptLaws as sending
use Rattle.sending.specs.Sending.{is_bare}
use Rattle.sending.specs.Expiry.{sending_expired}
use Rattle.states.specs.declared.state.State.{State}
use Rattle.states.specs.declared.state.State.TheVariants.{CookieWait, CookieEchoed, Established, ShutdownPending, ShutdownSent, ShutdownReceived, ShutdownAckSent}
use Rattle.states.specs.declared.call.Call.{Call}
use Rattle.states.specs.declared.call.Call.TheVariants.{Associate, HandIn, Acknowledge, ThirdTimer, Shutdown, Abort, Heartbeat, Sample, TellStale}
use Rattle.states.specs.Tries.{tried_again, within_tries}
use Rattle.states.specs.TriesLaws.{tries-kept, tried-keeps}
use Rattle.states.specs.Calls.{knows_peer}
use Rattle.states.specs.RowsLaws.{each-state, shutdown-knows}
use Rattle.association.specs.declared.ends.Association.{Association}
use Rattle.association.specs.Fresh.{with_state}
use Rattle.association.specs.Bounds.{lacks_port, is_head, earlier}
use Rattle.association.specs.BoundsLaws.{sound-parts, fewer-streams, ended-ends, closed-head, earlier-none}
use Rattle.association.specs.AssociationKeptLaws.{AssociationKept, kept-receiver, kept-sender, kept-with-receiving, kept-with-sending, kept-with-state, kept-closed, kept-moved, kept-started, kept-mode}
use Rattle.calls.specs.declared.acknowledging.Acknowledged.{Acknowledged}
use Rattle.calls.specs.declared.closing.Reason.{Reason}
use Rattle.calls.specs.declared.messages.HandedIn.{HandedIn}
use Rattle.calls.specs.declared.messages.Delivered.{Delivered}
use Rattle.calls.specs.declared.transmitting.Transmitted.{Transmitted}
use Rattle.calls.specs.Answer.{is_short_area, is_short_out, barred, Plan, refusing, unless, answer_of}
use Rattle.calls.specs.Opening.{wanting, associate_refusal, associating}
use Rattle.calls.specs.AnswerLaws.{call-let-in}
use Rattle.calls.specs.Messages.{hand_in_call, delivered_as, taking, take_bar, delivered}
use Rattle.calls.specs.Transmit.{transmit_bar, transmitted}
use Rattle.calls.specs.Acknowledging.{acknowledged_call}
use Rattle.calls.specs.Timers.{association_backed_off, tried_to, expiring, expiring_third, sampling}
use Rattle.calls.specs.Closing.{shutting, aborting}
use Rattle.calls.specs.Telling.{telling_stream, stale_refusal, telling_stale, beating}

-- ---- calls that answer by a plan

abbrev pub PlanKeeps : Plan → Type 0
PlanKeeps p = AssociationKept p.association

pub plan-answer-keeps : (p : Plan) (out : List ℕ) → PlanKeeps p → AssociationKept (answer_of p out).association
unfolding answer_of
plan-answer-keeps p out k = k

wanted : (local tag port streams : ℕ) → associate_refusal local tag port streams ≡ 0 → (lacks_port local port ≡ false) × (eqb tag 0 ≡ false) × (1 ≤ streams)
unfolding associate_refusal
wanted local tag port streams e = go (lacks_port local port) (eqb tag 0) (eqb streams 0) refl e
  where
    go : (p t s : Bool) → eqb streams 0 ≡ s → ◌≡◌ {A = ℕ} (pick p 4 (pick t 8 (pick s 8 0))) 0 → (p ≡ false) × (t ≡ false) × (1 ≤ streams)
    go true t s q h = absurd (omega (arith, h))
    go false true s q h = absurd (omega (arith, h))
    go false false true q h = absurd (omega (arith, h))
    go false false false q h = (refl, refl, omega (arith, eqb-false streams 0 q))

-- "our own INIT, starts from a fresh record"
wanting-kept : (a : Association) (tag : ℕ) (tsn : Tsn) (port streams : ℕ) → tsn.0 < 2 ^ 32 → lacks_port a.ends.local_port port ≡ false → eqb tag 0 ≡ false → 1 ≤ streams
    → a.sending.mode ≤ 1 → AssociationKept (wanting a tag tsn port streams)
unfolding wanting
wanting-kept a tag tsn port streams h p t n b =
    kept-started (CookieWait 0) _ tsn 0 (record { 0 = 1 }) a.sending.mode refl
    (ended-ends _ false (record { ported = p; mine = t; theirs = refl; ins = refl; outs = fewer-streams streams 128 n (omega arith) (smaller-right streams 128); options = refl })) h (omega arith) b

module _ (a : Association) (k : AssociationKept a) where
  unless-keeps : (n : ℕ) (p : Plan) → (n ≡ 0 → PlanKeeps p) → PlanKeeps (unless n a p)
  unless-keeps n p f = go (eqb n 0) refl
    where
      go : (t : Bool) → eqb n 0 ≡ t → PlanKeeps (pick t p (refusing a n))
      go true e = f (eqb-true n 0 e)
      go false e = k

  pub associate-keeps : (tag : ℕ) (tsn : Tsn) (port streams : ℕ) (out : List ℕ) → tsn.0 < 2 ^ 32 → PlanKeeps (associating a tag tsn port streams out)
  unfolding associating
  associate-keeps tag tsn port streams out h =
      unless-keeps (earlier (barred a (is_short_out out) Associate) (associate_refusal a.ends.local_port tag port streams)) _ (λ e. let w = wanted a.ends.local_port tag port streams (earlier-none (barred a (is_short_out out) Associate) (associate_refusal a.ends.local_port tag port streams) e).1 in wanting-kept a tag tsn port streams h w.0 w.1 w.2 (kept-mode a k))

  -- T1 and T2
  tried-keeps-bounds : (s : State) → within_tries s ≡ true → is_head s a.ends a.cookie ≡ true → PlanKeeps (tried_to a s)
  unfolding tried_to association_backed_off
  tried-keeps-bounds =
      let on : (s : State) → within_tries s ≡ true → is_head s a.ends a.cookie ≡ true → AssociationKept (association_backed_off a s)
      = λ s t h. kept-with-sending (with_state a s) (kept-with-state a k s t h) _ (sending.doubled-kept rail_sizes rail rail-fair a.sending (kept-sender a k)) in
      each-state (λ s. within_tries s ≡ true → is_head s a.ends a.cookie ≡ true → PlanKeeps (tried_to a s)) (λ t h. kept-closed a k) (λ n. on (CookieWait n)) (λ n. on (CookieEchoed n)) (on Established)
      (on ShutdownPending) (λ n. on (ShutdownSent n)) (on ShutdownReceived) (λ n. on (ShutdownAckSent n))

  pub expiry-keeps : (call : Call) (out : List ℕ) → PlanKeeps (expiring a call out)
  unfolding expiring
  expiry-keeps call out =
      let p = sound-parts a k.sound in
      unless-keeps (barred a (is_short_out out) call) _
      (λ e. tried-keeps-bounds (tried_again a.state) (tries-kept a.state p.tries) (tried-keeps (λ s. is_head s a.ends a.cookie ≡ true) (closed-head a.ends a.cookie a.state p.head) (λ n h. h) (λ n h. h) (λ n h. h) (λ n h. h) a.state p.head))

  pub third-keeps : PlanKeeps (expiring_third a)
  unfolding expiring_third
  third-keeps =
      unless-keeps (barred a false ThirdTimer) _
      (λ e. pick-keeps PlanKeeps (eqb (sending_expired (sizes_of a.sending.mode) a.sending).number 0) _ _ (pick-keeps PlanKeeps (sending_expired (sizes_of a.sending.mode) a.sending).over _ _ (kept-closed a k) (kept-with-sending a k _ (sending.kept-rail a.sending.mode rail _ (sending.expired-kept (sizes_of a.sending.mode) rail (book-fair a.sending.mode) a.sending (sending.kept-book a.sending.mode rail a.sending (kept-sender a k)))))) k)

  pub sample-keeps : (sample : ℕ) → PlanKeeps (sampling a sample)
  unfolding sampling
  sample-keeps sample = unless-keeps (barred a false Sample) _ (λ e. kept-with-sending a k _ (sending.sampled-kept rail_sizes rail rail-fair a.sending (kept-sender a k) sample))

  pub shutting-keeps : (out : List ℕ) → PlanKeeps (shutting a out)
  unfolding shutting
  shutting-keeps out =
      unless-keeps (barred a (is_short_out out) Shutdown) _
      (λ e. let o = shutdown-knows a.state (call-let-in a (is_short_out out) Shutdown e).1 in pick-keeps PlanKeeps (is_bare a.sending) _ _ (kept-moved a k o (ShutdownSent 0) refl refl) (kept-moved a k o ShutdownPending refl refl))

  pub abort-keeps : (why : Reason) (out : List ℕ) → PlanKeeps (aborting a why out)
  unfolding aborting
  abort-keeps why out = unless-keeps (barred a (is_short_out out) Abort) _ (λ e. pick-keeps PlanKeeps (knows_peer a.state) _ _ (kept-closed a k) (kept-closed a k))

  pub stream-keeps : (stream : StreamId) (out : List ℕ) → PlanKeeps (telling_stream a stream out)
  unfolding telling_stream
  stream-keeps stream out = unless-keeps (barred a (is_short_out out) Acknowledge) _ (λ e. k)

  pub stale-keeps : (port tag late : ℕ) (out : List ℕ) → PlanKeeps (telling_stale a port tag late out)
  unfolding telling_stale
  stale-keeps port tag late out = unless-keeps (earlier (barred a (is_short_out out) TellStale) (stale_refusal a.ends.local_port port tag)) _ (λ e. k)

  pub heartbeat-keeps : (value out : List ℕ) → PlanKeeps (beating a value out)
  unfolding beating
  heartbeat-keeps value out = unless-keeps (barred a (is_short_out out) Heartbeat) _ (λ e. k)

  -- ---- calls with answers of their own

  pub hand-in-keeps : (area : List ℕ) (len : ℕ) (stream : StreamId) (unordered : Bool) (ppid : ℕ) → AssociationKept (hand_in_call a area len stream unordered ppid).association
  unfolding hand_in_call
  hand-in-keeps area len stream unordered ppid =
      pick-keeps (λ (x : HandedIn). AssociationKept x.association) (eqb (barred a (is_short_area area) HandIn) 0) _ _
      (kept-with-sending a k _ (sending.handed-kept rail_sizes rail rail-fair a.sending (kept-sender a k) (omega arith) len stream unordered ppid a.ends.streams_out)) k

  pub transmit-keeps : (area out : List ℕ) → AssociationKept (transmitted a area out).association
  unfolding transmitted
  transmit-keeps area out =
      pick-keeps (λ (x : Transmitted). AssociationKept x.association) (eqb (transmit_bar a area out) 0) _ _
      (kept-with-sending a k _ (sending.filled-kept rail_sizes rail rail-fair a.sending (kept-sender a k))) k

  delivered-keeps : (x : took.Answer) (b : Association) → AssociationKept b → AssociationKept (delivered_as x b).association
  delivered-keeps (Taken m) b h = h
  delivered-keeps Nothing b h = h
  delivered-keeps (Short n) b h = h

  pub take-keeps : (area : List ℕ) (room : ℕ) → AssociationKept (delivered a area room).association
  unfolding delivered
  take-keeps area room =
      let r = kept-receiver a k in
      let t = kept-with-receiving a k (taking a room).receiving (record { shaped = taken-shaped circles rail a.receiving room r.shaped; sound = taken-sound circles rail a.receiving room r.sound }) in
      pick-keeps (λ (x : Delivered). AssociationKept x.association) (eqb (take_bar a area) 0) _ _ (delivered-keeps (taking a room).answer _ t) k

  pub sack-call-keeps : (out : List ℕ) → AssociationKept (acknowledged_call a out).association
  unfolding acknowledged_call
  sack-call-keeps out =
      let r = kept-receiver a k in
      pick-keeps (λ (x : Acknowledged). AssociationKept x.association) (eqb (barred a (is_short_out out) Acknowledge) 0) _ _
      (kept-with-receiving a k _ (record { shaped = receiving-told-shaped (ring (2 ^ 32)) rail a.receiving r.shaped; sound = told-sound (ring (2 ^ 32)) rail a.receiving r.sound })) k
