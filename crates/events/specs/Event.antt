-- An event as a number and its values.
use Rattle.std.specs.Prelude.{ℕ, Bool, true, false, List, eqb, ltb, get_or}
use Rattle.scans.specs.Scan.{pick}
use Rattle.scans.specs.Upto.{smaller}
use Rattle.numbers.specs.declared.circle.Tsn.{Tsn}
use Rattle.numbers.specs.declared.circle.StreamId.{StreamId}
use Rattle.steps.specs.declared.lent.Lent.{Lent}
use Rattle.steps.specs.declared.lent.Made.{Made}
use Rattle.steps.specs.declared.lent.Echoed.TheVariants.{Bad, Stale, Good}
use Rattle.calls.specs.declared.closing.Reason.TheVariants.{User, NoData, Violation}
use Rattle.events.specs.declared.event.Event.{Event}
use Rattle.events.specs.declared.event.Event.TheVariants.{Packet, Associate, HandIn, Transmit, Take, Acknowledge, T1, T2, T3, Shutdown, Abort, ErrorStream, ErrorStale, Heartbeat, Sample, Unknown}

-- the i-th value; one past the end is 0
abbrev pub value_at : List ℕ → ℕ → ℕ
value_at vs i = get_or vs i 0

-- where 16 bits are wanted, what does not fit in them passes for nothing that does. A stream, or streams, over 65,535: as many as can be said. "128
-- streams each way at most", so that stream is never agreed (19), so many make no cookie's word good (27), and of so many wanted we ask for 128
abbrev pub streams_at : List ℕ → ℕ → ℕ
streams_at vs i = smaller (value_at vs i) 65535

-- a port over 65,535: 0, which is answered 4
abbrev pub port_at : List ℕ → ℕ → ℕ
port_at vs i = pick (ltb (value_at vs i) 65536) (value_at vs i) 0

-- options over 255: all that can be said, among them some that nobody knows
abbrev pub options_at : List ℕ → ℕ → ℕ
options_at vs i = smaller (value_at vs i) 255

-- the i-th value as a TSN, as a stream
abbrev pub tsn_at : List ℕ → ℕ → Tsn
tsn_at vs i = record { 0 = value_at vs i }

abbrev pub stream_at : List ℕ → ℕ → StreamId
stream_at vs i = record { 0 = streams_at vs i }

-- what the host lends beside a packet: its tag, its first TSN, how many streams it wants, its options
abbrev pub lent_of : List ℕ → Lent
lent_of vs = record { tag = value_at vs 0; tsn = tsn_at vs 1; streams = streams_at vs 2; options = options_at vs 13 }

-- what the echoed cookie was made from
abbrev pub made_of : List ℕ → Made
made_of vs = record {
  my_tag = value_at vs 3;
  peer_tag = value_at vs 4;
  streams_in = streams_at vs 5;
  streams_out = streams_at vs 6;
  my_tsn = tsn_at vs 7;
  peer_tsn = tsn_at vs 8;
  window = value_at vs 9;
  my_tie = value_at vs 10;
  peer_tie = value_at vs 11;
  options = options_at vs 12;
}

-- the events that take values: our INIT; a message that is handed in; an ERROR with cause 3
abbrev pub associate_of : List ℕ → Event
associate_of vs = Associate (value_at vs 0) (tsn_at vs 1) (port_at vs 2) (streams_at vs 3)

abbrev pub hand_in_of : List ℕ → Bool → Event
hand_in_of vs unordered = HandIn (stream_at vs 0) unordered (value_at vs 1)

abbrev pub stale_of : List ℕ → Event
stale_of vs = ErrorStale (port_at vs 0) (value_at vs 1) (value_at vs 2)

-- the event of a number and its values; a number that is none of these is no event
unfoldable pub event_of : ℕ → List ℕ → Event
event_of k vs =
    pick (eqb k 0) (Packet (lent_of vs) Bad)
    (pick (eqb k 1) (Packet (lent_of vs) (Stale (made_of vs)))
    (pick (eqb k 2) (Packet (lent_of vs) (Good (made_of vs)))
    (pick (eqb k 3) (associate_of vs)
    (pick (eqb k 4) (hand_in_of vs false)
    (pick (eqb k 5) (hand_in_of vs true)
    (pick (eqb k 6) Transmit
    (pick (eqb k 7) Take
    (pick (eqb k 8) Acknowledge
    (pick (eqb k 9) T1
    (pick (eqb k 10) T2
    (pick (eqb k 11) T3
    (pick (eqb k 12) Shutdown
    (pick (eqb k 13) (Abort User)
    (pick (eqb k 14) (Abort (NoData (tsn_at vs 0)))
    (pick (eqb k 15) (Abort Violation)
    (pick (eqb k 16) (ErrorStream (value_at vs 0))
    (pick (eqb k 17) (stale_of vs)
    (pick (eqb k 18) (Heartbeat (value_at vs 0) (value_at vs 1))
    (pick (eqb k 19) (Sample (value_at vs 0)) Unknown)))))))))))))))))))
