-- The table's column "Leaves", and what stays true of the record, for every event of the host.
use Rattle.std.specs.Prelude.{ℕ, ◌<◌, ◌^◌, ◌≡◌, take}
use Rattle.scans.specs.Each.{All}
use Rattle.chunks.specs.AgainLaws.{Octet}
use Rattle.association.specs.declared.ends.Association.{Association}
use Rattle.association.specs.AssociationKeptLaws.{AssociationKept}
use Rattle.steps.specs.SoundLaws.{Worded}
use Rattle.arriving.specs.PacketRefusal.{Barred}
use Rattle.events.specs.declared.event.Event.{Event}
use Rattle.events.specs.declared.event.Event.TheVariants.{Packet, Associate, HandIn, Transmit, Take, Acknowledge, T1, T2, T3, Shutdown, Abort, ErrorStream, ErrorStale, Heartbeat, Sample, Unknown}
use Rattle.events.specs.Happening.{Buffers, EventLeft, happened}

-- "all": the record, both areas and the output are as they came, and no chunk has a verdict
pub record EventLeavesAll (a : Association) (b : Buffers) (l : EventLeft) : Type 0 where
  pub association : l.ran.association ≡ a
  pub received : l.received ≡ b.received
  pub sent : l.sent ≡ b.sent
  pub out : l.out ≡ b.out
  pub unjudged : l.ran.told.seen.count ≡ 0

-- so does an event whose number is not 0. A packet's number is its own; 11 and 14 are verdicts of chunks
abbrev pub RefusalLeaves : Association → Event → Buffers → Type 0
RefusalLeaves a e b = 0 < (happened a e b).ran.told.number → EventLeavesAll a b (happened a e b)

-- and a packet that is let in, all of whose chunks are refused with numbers other than 11 and 14: it is not answered either
abbrev pub BarredLeaves : Association → Event → Buffers → Type 0
BarredLeaves a e b =
    (let l : EventLeft = happened a e b in
    0 < l.ran.told.seen.count → All Barred (take l.ran.told.seen.count l.ran.told.seen.verdicts)
    → (l.ran.association ≡ a) × (l.received ≡ b.received) × (l.sent ≡ b.sent) × (l.out ≡ b.out) × (l.ran.told.length ≡ 0))

-- what the types say of an event's values and of a packet: TSNs of 32 bits, bytes of 8
abbrev pub EventValued : Event → Buffers → Type 0
EventValued (Packet l e) b = Worded e × All Octet b.input
EventValued (Associate tag tsn port streams) b = tsn.0 < 2 ^ 32
EventValued (HandIn stream unordered ppid) b = Unit
EventValued Transmit b = Unit
EventValued Take b = Unit
EventValued Acknowledge b = Unit
EventValued T1 b = Unit
EventValued T2 b = Unit
EventValued T3 b = Unit
EventValued Shutdown b = Unit
EventValued (Abort why) b = Unit
EventValued (ErrorStream stream) b = Unit
EventValued (ErrorStale port tag late) b = Unit
EventValued (Heartbeat x y) b = Unit
EventValued (Sample ms) b = Unit
EventValued Unknown b = Unit

-- a record within its bounds, as its types have it, stays so
abbrev pub StaysKept : Association → Event → Buffers → Type 0
StaysKept a e b = EventValued e b → AssociationKept a → AssociationKept (happened a e b).ran.association
