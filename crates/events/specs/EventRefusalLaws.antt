-- Every event that is refused leaves all, and every event keeps a record within its bounds. Assumes nothing.
use Rattle.std.specs.Prelude.{ℕ, ◌<◌, ◌≡◌, Bool, true, false, ltb, length}
use Rattle.std.proofs.Math.Path.{refl}
use Rattle.std.proofs.Common.{ap, arith}
use mathlib.Core.List.{List, []}
use Rattle.scans.specs.Upto.{pick-keeps}
use Rattle.states.specs.declared.call.Call.TheVariants.{FirstTimer, SecondTimer}
use Rattle.association.specs.declared.ends.Association.{Association}
use Rattle.association.specs.AssociationKeptLaws.{AssociationKept}
use Rattle.arriving.specs.PacketKeptLaws.{arrive-left, arrive-keeps}
use Rattle.arriving.specs.PacketRefusalLaws.{barred-leaves, refused-unjudged}
use Rattle.calls.specs.declared.answer.Answer.{Answer}
use Rattle.calls.specs.Answer.{Plan, answer_of}
use Rattle.calls.specs.LeftLaws.{PlanLeaves, plan-left-all, associate-leaves, expiry-leaves, third-leaves, sample-leaves, shutdown-leaves, abort-leaves, stream-leaves, stale-leaves, heartbeat-leaves, hand-in-left, take_left, sack-left, transmit-left}
use Rattle.calls.specs.SoundLaws.{PlanKeeps, plan-answer-keeps, associate-keeps, expiry-keeps, third-keeps, sample-keeps, shutting-keeps, abort-keeps, stream-keeps, stale-keeps, heartbeat-keeps, hand-in-keeps, take-keeps, sack-call-keeps, transmit-keeps}
use Rattle.calls.specs.Opening.{associating}
use Rattle.calls.specs.Timers.{expiring, expiring_third, sampling}
use Rattle.calls.specs.Closing.{shutting, aborting}
use Rattle.calls.specs.Telling.{telling_stale, beating}
use Rattle.events.specs.declared.event.Event.{Event}
use Rattle.events.specs.declared.event.Event.TheVariants.{Packet, Associate, HandIn, Transmit, Take, Acknowledge, T1, T2, T3, Shutdown, Abort, ErrorStream, ErrorStale, Heartbeat, Sample, Unknown}
use Rattle.events.specs.Happening.{Buffers, EventLeft, planned, planned_quietly, telling_any, halves, happened}
use Rattle.events.specs.EventRefusal.{EventLeavesAll, RefusalLeaves, BarredLeaves, StaysKept}

module _ (a : Association) (b : Buffers) where
  -- ---- a number that is not 0 leaves all

  planned-leaves : (p : Plan) → PlanLeaves a p → 0 < (planned p b).ran.told.number → EventLeavesAll a b (planned p b)
  planned-leaves p w h =
      let l = plan-left-all a p b.out w (λ z. omega (arith, z, h)) in
      record { association = ap (λ (r : Answer). r.association) l.0; received = refl; sent = refl; out = l.1; unjudged = refl }

  alone-leaves : (p : Plan) → PlanLeaves a p → 0 < (planned_quietly p b).ran.told.number → EventLeavesAll a b (planned_quietly p b)
  alone-leaves p w h =
      let l = plan-left-all a p [] w (λ z. omega (arith, z, h)) in
      record { association = ap (λ (r : Answer). r.association) l.0; received = refl; sent = refl; out = refl; unjudged = refl }

  pub any-leaves : (stream : ℕ) → PlanLeaves a (telling_any a stream b.out)
  unfolding telling_any
  any-leaves stream = pick-keeps (PlanLeaves a) (ltb stream 65536) _ _ (stream-leaves a (record { 0 = stream }) b.out) (λ h. refl)

  pub refusal-leaves : (e : Event) → RefusalLeaves a e b
  unfolding happened
  refusal-leaves (Packet l e) h =
      let w = arrive-left a b.received b.input l b.cookie e b.out h in
      record { association = w.0; received = w.1; sent = refl; out = w.2; unjudged = refused-unjudged a b.received b.input l b.cookie e b.out h }
  refusal-leaves (Associate tag tsn port streams) h = planned-leaves (associating a tag tsn port streams b.out) (associate-leaves a tag tsn port streams b.out) h
  refusal-leaves (HandIn stream unordered ppid) h =
      let w = hand-in-left a b.sent b.input stream unordered ppid h in
      record { association = w.0; received = refl; sent = w.1; out = refl; unjudged = refl }
  refusal-leaves Transmit h = let w = transmit-left a b.sent b.out h in record { association = w.0; received = refl; sent = refl; out = w.1; unjudged = refl }
  refusal-leaves Take h = let w = take_left a b.received b.out h in record { association = w.0; received = refl; sent = refl; out = w.1; unjudged = refl }
  refusal-leaves Acknowledge h = let w = sack-left a b.out h in record { association = w.0; received = refl; sent = refl; out = w.1; unjudged = refl }
  refusal-leaves T1 h = planned-leaves (expiring a FirstTimer b.out) (expiry-leaves a FirstTimer b.out) h
  refusal-leaves T2 h = planned-leaves (expiring a SecondTimer b.out) (expiry-leaves a SecondTimer b.out) h
  refusal-leaves T3 h = alone-leaves (expiring_third a) (third-leaves a) h
  refusal-leaves Shutdown h = planned-leaves (shutting a b.out) (shutdown-leaves a b.out) h
  refusal-leaves (Abort why) h = planned-leaves (aborting a why b.out) (abort-leaves a why b.out) h
  refusal-leaves (ErrorStream stream) h = planned-leaves (telling_any a stream b.out) (any-leaves stream) h
  refusal-leaves (ErrorStale port tag late) h = planned-leaves (telling_stale a port tag late b.out) (stale-leaves a port tag late b.out) h
  refusal-leaves (Heartbeat x y) h = planned-leaves (beating a (halves x y) b.out) (heartbeat-leaves a (halves x y) b.out) h
  refusal-leaves (Sample ms) h = alone-leaves (sampling a ms) (sample-leaves a ms) h
  refusal-leaves Unknown h = record { association = refl; received = refl; sent = refl; out = refl; unjudged = refl }

  -- only a packet has verdicts
  pub barred-event-leaves : (e : Event) → BarredLeaves a e b
  unfolding happened
  barred-event-leaves (Packet l e) c w =
      let v = barred-leaves a b.received b.input l b.cookie e b.out w in
      (v.association, v.held, refl, v.sent, v.silent)
  barred-event-leaves (Associate tag tsn port streams) c w = absurd (omega (arith, c))
  barred-event-leaves (HandIn stream unordered ppid) c w = absurd (omega (arith, c))
  barred-event-leaves Transmit c w = absurd (omega (arith, c))
  barred-event-leaves Take c w = absurd (omega (arith, c))
  barred-event-leaves Acknowledge c w = absurd (omega (arith, c))
  barred-event-leaves T1 c w = absurd (omega (arith, c))
  barred-event-leaves T2 c w = absurd (omega (arith, c))
  barred-event-leaves T3 c w = absurd (omega (arith, c))
  barred-event-leaves Shutdown c w = absurd (omega (arith, c))
  barred-event-leaves (Abort why) c w = absurd (omega (arith, c))
  barred-event-leaves (ErrorStream stream) c w = absurd (omega (arith, c))
  barred-event-leaves (ErrorStale port tag late) c w = absurd (omega (arith, c))
  barred-event-leaves (Heartbeat x y) c w = absurd (omega (arith, c))
  barred-event-leaves (Sample ms) c w = absurd (omega (arith, c))
  barred-event-leaves Unknown c w = absurd (omega (arith, c))

  -- ---- a record within its bounds stays within them

  any-keeps : AssociationKept a → (stream : ℕ) → PlanKeeps (telling_any a stream b.out)
  unfolding telling_any
  any-keeps k stream = pick-keeps PlanKeeps (ltb stream 65536) _ _ (stream-keeps a k (record { 0 = stream }) b.out) k

  pub event-keeps : (e : Event) → StaysKept a e b
  unfolding happened
  event-keeps (Packet l e) v k = arrive-keeps a b.received b.input l b.cookie e b.out v.0 v.1 k
  event-keeps (Associate tag tsn port streams) v k = plan-answer-keeps (associating a tag tsn port streams b.out) b.out (associate-keeps a k tag tsn port streams b.out v)
  event-keeps (HandIn stream unordered ppid) v k = hand-in-keeps a k b.sent (length b.input) stream unordered ppid
  event-keeps Transmit v k = transmit-keeps a k b.sent b.out
  event-keeps Take v k = take-keeps a k b.received (length b.out)
  event-keeps Acknowledge v k = sack-call-keeps a k b.out
  event-keeps T1 v k = plan-answer-keeps (expiring a FirstTimer b.out) b.out (expiry-keeps a k FirstTimer b.out)
  event-keeps T2 v k = plan-answer-keeps (expiring a SecondTimer b.out) b.out (expiry-keeps a k SecondTimer b.out)
  event-keeps T3 v k = plan-answer-keeps (expiring_third a) [] (third-keeps a k)
  event-keeps Shutdown v k = plan-answer-keeps (shutting a b.out) b.out (shutting-keeps a k b.out)
  event-keeps (Abort why) v k = plan-answer-keeps (aborting a why b.out) b.out (abort-keeps a k why b.out)
  event-keeps (ErrorStream stream) v k = plan-answer-keeps (telling_any a stream b.out) b.out (any-keeps k stream)
  event-keeps (ErrorStale port tag late) v k = plan-answer-keeps (telling_stale a port tag late b.out) b.out (stale-keeps a k port tag late b.out)
  event-keeps (Heartbeat x y) v k = plan-answer-keeps (beating a (halves x y) b.out) b.out (heartbeat-keeps a k (halves x y) b.out)
  event-keeps (Sample ms) v k = plan-answer-keeps (sampling a ms) [] (sample-keeps a k ms)
  event-keeps Unknown v k = k
