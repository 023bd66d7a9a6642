-- The book that a record keeps to: no call changes it, and what is taken and acknowledged is the same in both. Assumes nothing.
use Rattle.std.specs.Prelude.{ℕ, ◌≤◌, ◌≡◌, Bool, List, eqb}
use Rattle.std.proofs.Math.Path.{refl}
use Rattle.std.proofs.Math.Bool.{false}
use Rattle.scans.specs.Upto.{pick-keeps}
use Rattle.numbers.specs.declared.circle.StreamId.{StreamId}
use Rattle.numbers.specs.declared.circle.Tsn.{Tsn}
use Rattle.holding.specs.declared.taking.Answer as took
use Rattle.holding.specs.declared.taking.Answer.TheVariants.{Taken, Nothing, Short}
use Rattle.path.specs.Sizes.{sizes_of}
use Rattle.sending.specs.Sending.{is_bare}
use Rattle.sending.specs.Expiry.{sending_expired}
use Rattle.sending.specs.BookLaws.{fresh-mode, expired-mode, sampled-mode, doubled-mode, handed-mode, filled-mode}
use Rattle.states.specs.declared.state.State.{State}
use Rattle.states.specs.declared.call.Call.{Call}
use Rattle.states.specs.declared.call.Call.TheVariants.{Associate, HandIn, Acknowledge, ThirdTimer, Shutdown, Abort, Heartbeat, Sample, TellStale}
use Rattle.states.specs.Tries.{tried_again}
use Rattle.states.specs.Calls.{knows_peer}
use Rattle.states.specs.RowsLaws.{each-state}
use Rattle.association.specs.declared.ends.Association.{Association}
use Rattle.association.specs.Fresh.{with_mode}
use Rattle.association.specs.Bounds.{earlier}
use Rattle.association.specs.BookLaws.{blind-sound}
use Rattle.calls.specs.declared.acknowledging.Acknowledged.{Acknowledged}
use Rattle.calls.specs.declared.closing.Reason.{Reason}
use Rattle.calls.specs.declared.messages.HandedIn.{HandedIn}
use Rattle.calls.specs.declared.messages.Delivered.{Delivered}
use Rattle.calls.specs.declared.transmitting.Transmitted.{Transmitted}
use Rattle.calls.specs.Answer.{is_short_area, is_short_out, barred, Plan, refusing, unless, answer_of}
use Rattle.calls.specs.Opening.{wanting, associate_refusal, associating}
use Rattle.calls.specs.Messages.{hand_in_call, delivered_as, taking, take_bar, delivered, delivered_out}
use Rattle.calls.specs.Transmit.{transmit_bar, transmitted}
use Rattle.calls.specs.Acknowledging.{acknowledged_call, acknowledged_out}
use Rattle.calls.specs.Timers.{association_backed_off, tried_to, expiring, expiring_third, sampling}
use Rattle.calls.specs.Closing.{shutting, aborting}
use Rattle.calls.specs.Telling.{telling_stream, stale_refusal, telling_stale, beating}

module _ (a : Association) where
  abbrev pub Booked : Plan → Type 0
  Booked p = p.association.sending.mode ≡ a.sending.mode

  pub answer-booked : (p : Plan) (out : List ℕ) → Booked p → (answer_of p out).association.sending.mode ≡ a.sending.mode
  unfolding answer_of
  answer-booked p out h = h

  unless-booked : (n : ℕ) (p : Plan) → Booked p → Booked (unless n a p)
  unless-booked n p h = pick-keeps Booked (eqb n 0) p (refusing a n) h refl

  pub associate-booked : (tag : ℕ) (tsn : Tsn) (port streams : ℕ) (out : List ℕ) → Booked (associating a tag tsn port streams out)
  unfolding associating wanting
  associate-booked tag tsn port streams out =
      unless-booked (earlier (barred a (is_short_out out) Associate) (associate_refusal a.ends.local_port tag port streams)) _ (fresh-mode _ _ _ _ _)

  tried-booked : (s : State) → Booked (tried_to a s)
  unfolding tried_to association_backed_off
  tried-booked =
      let d = doubled-mode _ a.sending in
      each-state (λ s. Booked (tried_to a s)) refl (λ n. d) (λ n. d) d d (λ n. d) d (λ n. d)

  pub expiry-booked : (call : Call) (out : List ℕ) → Booked (expiring a call out)
  unfolding expiring
  expiry-booked call out = unless-booked (barred a (is_short_out out) call) _ (tried-booked (tried_again a.state))

  pub third-booked : Booked (expiring_third a)
  unfolding expiring_third
  third-booked =
      unless-booked (barred a false ThirdTimer) _
      (pick-keeps Booked (eqb (sending_expired (sizes_of a.sending.mode) a.sending).number 0) _ _ (pick-keeps Booked (sending_expired (sizes_of a.sending.mode) a.sending).over _ _ refl (expired-mode _ a.sending)) refl)

  pub sample-booked : (sample : ℕ) → Booked (sampling a sample)
  unfolding sampling
  sample-booked sample = unless-booked (barred a false Sample) _ (sampled-mode _ a.sending sample)

  pub shutdown-booked : (out : List ℕ) → Booked (shutting a out)
  unfolding shutting
  shutdown-booked out = unless-booked (barred a (is_short_out out) Shutdown) _ (pick-keeps Booked (is_bare a.sending) _ _ refl refl)

  pub abort-booked : (why : Reason) (out : List ℕ) → Booked (aborting a why out)
  unfolding aborting
  abort-booked why out = unless-booked (barred a (is_short_out out) Abort) _ (pick-keeps Booked (knows_peer a.state) _ _ refl refl)

  pub stream-booked : (stream : StreamId) (out : List ℕ) → Booked (telling_stream a stream out)
  unfolding telling_stream
  stream-booked stream out = unless-booked (barred a (is_short_out out) Acknowledge) _ refl

  pub stale-booked : (port tag late : ℕ) (out : List ℕ) → Booked (telling_stale a port tag late out)
  unfolding telling_stale
  stale-booked port tag late out = unless-booked (earlier (barred a (is_short_out out) TellStale) (stale_refusal a.ends.local_port port tag)) _ refl

  pub heartbeat-booked : (value out : List ℕ) → Booked (beating a value out)
  unfolding beating
  heartbeat-booked value out = unless-booked (barred a (is_short_out out) Heartbeat) _ refl

  pub hand-in-booked : (area : List ℕ) (len : ℕ) (stream : StreamId) (unordered : Bool) (ppid : ℕ) → (hand_in_call a area len stream unordered ppid).association.sending.mode ≡ a.sending.mode
  unfolding hand_in_call
  hand-in-booked area len stream unordered ppid =
      pick-keeps (λ (x : HandedIn). x.association.sending.mode ≡ a.sending.mode) (eqb (barred a (is_short_area area) HandIn) 0) _ _
      (handed-mode _ a.sending len stream unordered ppid a.ends.streams_out) refl

  pub transmit-booked : (area out : List ℕ) → (transmitted a area out).association.sending.mode ≡ a.sending.mode
  unfolding transmitted
  transmit-booked area out =
      pick-keeps (λ (x : Transmitted). x.association.sending.mode ≡ a.sending.mode) (eqb (transmit_bar a area out) 0) _ _ (filled-mode _ _ a.sending) refl

  delivered-booked : (x : took.Answer) (b : Association) → (delivered_as x b).association.sending.mode ≡ b.sending.mode
  delivered-booked (Taken m) b = refl
  delivered-booked Nothing b = refl
  delivered-booked (Short n) b = refl

  pub take-booked : (area : List ℕ) (room : ℕ) → (delivered a area room).association.sending.mode ≡ a.sending.mode
  unfolding delivered
  take-booked area room =
      pick-keeps (λ (x : Delivered). x.association.sending.mode ≡ a.sending.mode) (eqb (take_bar a area) 0) _ _ (delivered-booked (taking a room).answer _) refl

  pub sack-booked : (out : List ℕ) → (acknowledged_call a out).association.sending.mode ≡ a.sending.mode
  unfolding acknowledged_call
  sack-booked out =
      pick-keeps (λ (x : Acknowledged). x.association.sending.mode ≡ a.sending.mode) (eqb (barred a (is_short_out out) Acknowledge) 0) _ _ refl refl

-- 02, T-12: "Reading, delivery and demand 3 are the same in both modes": a take and an acknowledgement of one record in either mode
module _ (a : Association) (m : ℕ) (h : m ≤ 1) (k : a.sending.mode ≤ 1) where
  pub blind-taking : (room : ℕ) → taking (with_mode a m) room ≡ taking a room
  blind-taking room = refl

  pub blind-out : (area out : List ℕ) → delivered_out (with_mode a m) area out ≡ delivered_out a area out
  unfolding delivered_out
  blind-out area out = rw (blind-sound a m h k)

  pub blind-sack : (out : List ℕ) → acknowledged_out (with_mode a m) out ≡ acknowledged_out a out
  unfolding acknowledged_out barred
  blind-sack out = rw (blind-sound a m h k)
