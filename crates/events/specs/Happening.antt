-- Any event of the host, and what its call leaves.
use Rattle.std.specs.Prelude.{ℕ, Bool, false, List, [], ◌++◌, ltb, length}
use Rattle.scans.specs.Scan.{pick}
use Rattle.octets.specs.Bytes.{be32}
use Rattle.numbers.specs.declared.circle.StreamId.{StreamId}
use Rattle.states.specs.declared.call.Call.TheVariants.{Acknowledge as to_acknowledge, FirstTimer, SecondTimer}
use Rattle.association.specs.declared.ends.Association.{Association}
use Rattle.association.specs.Bounds.{is_sound, earlier}
use Rattle.steps.specs.declared.lent.Lent.{Lent}
use Rattle.steps.specs.declared.lent.Echoed.{Echoed}
use Rattle.arriving.specs.Arrival.{arrived_of, packet_area, packet_out}
use Rattle.calls.specs.Answer.{is_short_out, barred, Plan, refusing, answer_of, plan_out}
use Rattle.calls.specs.Opening.{associating}
use Rattle.calls.specs.Messages.{hand_in_call, hand_in_call_area, delivered, delivered_out}
use Rattle.calls.specs.Transmit.{transmitted, transmitted_out}
use Rattle.calls.specs.Acknowledging.{acknowledged_call, acknowledged_out}
use Rattle.calls.specs.Timers.{expiring, expiring_third, sampling}
use Rattle.calls.specs.Closing.{shutting, aborting}
use Rattle.calls.specs.Telling.{telling_stream, telling_stale, beating}
use Rattle.events.specs.declared.event.Event.{Event}
use Rattle.events.specs.declared.event.Event.TheVariants.{Packet, Associate, HandIn, Transmit, Take, Acknowledge, T1, T2, T3, Shutdown, Abort, ErrorStream, ErrorStale, Heartbeat, Sample, Unknown}
use Rattle.events.specs.declared.told.Ran.{Ran}
use Rattle.events.specs.Told.{plainly, of_answer, of_handed_in, of_transmitted, of_acknowledged, of_delivered, of_arrived}

-- what the host lends: its two areas, the packet or the message, a cookie, an output
pub record Buffers : Type 0 where
  pub received : List ℕ
  pub sent : List ℕ
  pub input : List ℕ
  pub cookie : List ℕ
  pub out : List ℕ

abbrev pub lent_buffers : List ℕ → List ℕ → List ℕ → List ℕ → List ℕ → Buffers
lent_buffers received sent input cookie out = record { received = received; sent = sent; input = input; cookie = cookie; out = out }

-- what an event leaves: what is told, the record, and what stands in the areas and in the output
pub record EventLeft : Type 0 where
  pub ran : Ran
  pub received : List ℕ
  pub sent : List ℕ
  pub out : List ℕ

-- the areas stay
abbrev pub leaving : Ran → List ℕ → Buffers → EventLeft
leaving r out b = record { ran = r; received = b.received; sent = b.sent; out = out }

abbrev pub planned : Plan → Buffers → EventLeft
planned p b = leaving (of_answer (answer_of p b.out)) (plan_out p b.out) b

-- the same of a call with no output
abbrev pub planned_quietly : Plan → Buffers → EventLeft
planned_quietly p b = leaving (of_answer (answer_of p [])) b.out b

-- a packet arrives: the area for held chunks and the output change, the area for sending stays
abbrev pub packet_arriving : Association → Lent → Echoed → Buffers → EventLeft
packet_arriving a l e b = record {
  ran = of_arrived (arrived_of a b.received b.input l b.cookie e b.out);
  received = packet_area a b.received b.input l b.cookie e b.out;
  sent = b.sent;
  out = packet_out a b.received b.input l b.cookie e b.out;
}

-- a message is handed in: only the area for sending changes
abbrev pub message_handing : Association → StreamId → Bool → ℕ → Buffers → EventLeft
message_handing a stream unordered ppid b = record {
  ran = of_handed_in (hand_in_call a b.sent (length b.input) stream unordered ppid);
  received = b.received;
  sent = hand_in_call_area a b.sent b.input stream;
  out = b.out;
}

-- 7 for a number that names no event, behind 1 as for every call
unfoldable pub unknown_number : Association → ℕ
unknown_number a = pick (is_sound a) 7 1

-- 19 "stream not agreed" for a stream that no chunk can name, behind 1, 18 and 7 as for every other
unfoldable pub stray_number : Association → List ℕ → ℕ
stray_number a out = earlier (barred a (is_short_out out) to_acknowledge) 19

unfoldable pub telling_any : Association → ℕ → List ℕ → Plan
telling_any a stream out = pick (ltb stream 65536) (telling_stream a (record { 0 = stream }) out) (refusing a (stray_number a out))

-- the eight bytes of a HEARTBEAT's value
unfoldable pub halves : ℕ → ℕ → List ℕ
halves x y = be32 x ++ be32 y

-- "One thin entry updates a record": each event is the call of its name
unfoldable pub happened : Association → Event → Buffers → EventLeft
happened a (Packet l e) b = packet_arriving a l e b
happened a (Associate tag tsn port streams) b = planned (associating a tag tsn port streams b.out) b
happened a (HandIn stream unordered ppid) b = message_handing a stream unordered ppid b
happened a Transmit b = leaving (of_transmitted (transmitted a b.sent b.out)) (transmitted_out a b.sent b.out) b
happened a Take b = leaving (of_delivered (delivered a b.received (length b.out))) (delivered_out a b.received b.out) b
happened a Acknowledge b = leaving (of_acknowledged (acknowledged_call a b.out)) (acknowledged_out a b.out) b
happened a T1 b = planned (expiring a FirstTimer b.out) b
happened a T2 b = planned (expiring a SecondTimer b.out) b
happened a T3 b = planned_quietly (expiring_third a) b
happened a Shutdown b = planned (shutting a b.out) b
happened a (Abort why) b = planned (aborting a why b.out) b
happened a (ErrorStream stream) b = planned (telling_any a stream b.out) b
happened a (ErrorStale port tag late) b = planned (telling_stale a port tag late b.out) b
happened a (Heartbeat x y) b = planned (beating a (halves x y) b.out) b
happened a (Sample ms) b = planned_quietly (sampling a ms) b
happened a Unknown b = leaving (plainly (unknown_number a) 0 false a) b.out b
