-- What holds of all that the calls leave holds of every event. Assumes nothing.
use Rattle.std.specs.Prelude.{ℕ, ◌≡◌, refl, Bool, false, List, ltb, length}
use Rattle.scans.specs.Upto.{pick-keeps}
use Rattle.numbers.specs.declared.circle.StreamId.{StreamId}
use Rattle.numbers.specs.declared.circle.Tsn.{Tsn}
use Rattle.states.specs.declared.call.Call.TheVariants.{FirstTimer, SecondTimer}
use Rattle.association.specs.declared.ends.Association.{Association}
use Rattle.steps.specs.declared.lent.Lent.{Lent}
use Rattle.steps.specs.declared.lent.Echoed.{Echoed}
use Rattle.calls.specs.declared.closing.Reason.{Reason}
use Rattle.calls.specs.Answer.{Plan, refusing}
use Rattle.calls.specs.Opening.{associating}
use Rattle.calls.specs.Messages.{delivered, delivered_out}
use Rattle.calls.specs.Transmit.{transmitted, transmitted_out}
use Rattle.calls.specs.Acknowledging.{acknowledged_call, acknowledged_out}
use Rattle.calls.specs.Timers.{expiring, expiring_third, sampling}
use Rattle.calls.specs.Closing.{shutting, aborting}
use Rattle.calls.specs.Telling.{telling_stream, telling_stale, beating}
use Rattle.events.specs.declared.event.Event.{Event}
use Rattle.events.specs.declared.event.Event.TheVariants.{Packet, Associate, HandIn, Transmit, Take, Acknowledge, T1, T2, T3, Shutdown, Abort, ErrorStream, ErrorStale, Heartbeat, Sample, Unknown}
use Rattle.events.specs.Told.{plainly, of_transmitted, of_acknowledged, of_delivered}
use Rattle.events.specs.Happening.{Buffers, EventLeft, leaving, planned, planned_quietly, packet_arriving, message_handing, unknown_number, stray_number, telling_any, halves, happened}

pub halves_long : (x y : ℕ) → length (halves x y) ≡ 8
unfolding halves
halves_long x y = refl

-- a stream that no chunk can name is refused
pub any-keeps : (Q : Plan → Type 0) (a : Association) (stream : ℕ) (out : List ℕ) → Q (telling_stream a (record { 0 = stream }) out) → Q (refusing a (stray_number a out)) → Q (telling_any a stream out)
unfolding telling_any
any-keeps Q a stream out s r = pick-keeps Q (ltb stream 65536) _ _ s r

-- Q of what each call leaves
pub record Each (a : Association) (b : Buffers) (Q : Event → EventLeft → Type 0) : Type 0 where
  pub packet : (l : Lent) (e : Echoed) → Q (Packet l e) (packet_arriving a l e b)
  pub associate : (tag : ℕ) (tsn : Tsn) (port streams : ℕ) → Q (Associate tag tsn port streams) (planned (associating a tag tsn port streams b.out) b)
  pub hand_in : (stream : StreamId) (unordered : Bool) (ppid : ℕ) → Q (HandIn stream unordered ppid) (message_handing a stream unordered ppid b)
  pub transmit : Q Transmit (leaving (of_transmitted (transmitted a b.sent b.out)) (transmitted_out a b.sent b.out) b)
  pub take : Q Take (leaving (of_delivered (delivered a b.received (length b.out))) (delivered_out a b.received b.out) b)
  pub acknowledge : Q Acknowledge (leaving (of_acknowledged (acknowledged_call a b.out)) (acknowledged_out a b.out) b)
  pub t1 : Q T1 (planned (expiring a FirstTimer b.out) b)
  pub t2 : Q T2 (planned (expiring a SecondTimer b.out) b)
  pub t3 : Q T3 (planned_quietly (expiring_third a) b)
  pub shutdown : Q Shutdown (planned (shutting a b.out) b)
  pub abort : (why : Reason) → Q (Abort why) (planned (aborting a why b.out) b)
  pub error-stream : (stream : ℕ) → Q (ErrorStream stream) (planned (telling_any a stream b.out) b)
  pub error-stale : (port tag late : ℕ) → Q (ErrorStale port tag late) (planned (telling_stale a port tag late b.out) b)
  pub heartbeat : (x y : ℕ) → Q (Heartbeat x y) (planned (beating a (halves x y) b.out) b)
  pub sample : (ms : ℕ) → Q (Sample ms) (planned_quietly (sampling a ms) b)
  pub unknown : Q Unknown (leaving (plainly (unknown_number a) 0 false a) b.out b)

pub each-event : (a : Association) (b : Buffers) (Q : Event → EventLeft → Type 0) → Each a b Q → (v : Event) → Q v (happened a v b)
unfolding happened
each-event a b Q k (Packet l e) = k.packet l e
each-event a b Q k (Associate tag tsn port streams) = k.associate tag tsn port streams
each-event a b Q k (HandIn stream unordered ppid) = k.hand_in stream unordered ppid
each-event a b Q k Transmit = k.transmit
each-event a b Q k Take = k.take
each-event a b Q k Acknowledge = k.acknowledge
each-event a b Q k T1 = k.t1
each-event a b Q k T2 = k.t2
each-event a b Q k T3 = k.t3
each-event a b Q k Shutdown = k.shutdown
each-event a b Q k (Abort why) = k.abort why
each-event a b Q k (ErrorStream stream) = k.error-stream stream
each-event a b Q k (ErrorStale port tag late) = k.error-stale port tag late
each-event a b Q k (Heartbeat x y) = k.heartbeat x y
each-event a b Q k (Sample ms) = k.sample ms
each-event a b Q k Unknown = k.unknown
