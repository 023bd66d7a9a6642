-- What a call asks of the receiving side: the line's events, what is refused before that side is asked, and fresh starts.
use Rattle.std.specs.Prelude.{ℕ, ◌-◌, true, List, [], ◌∷◌, ◌++◌, eqb, length}
use Rattle.scans.specs.Scan.{pick}
use Rattle.scans.specs.Upto.{smaller}
use Rattle.numbers.specs.declared.circle.Tsn.{Tsn}
use Rattle.numbers.specs.Numbering.{Numberings, circles}
use Rattle.numbers.specs.Profile.{rail}
use Rattle.octets.specs.Walk.{over_items}
use Rattle.packets.specs.Header.{header_of}
use Rattle.chunks.specs.Frame.{part_from}
use Rattle.chunks.specs.InitChunk.{init_of}
use Rattle.parameters.specs.Parameter.{value_of, is_there, COOKIE, NAME}
use Rattle.holding.specs.declared.taking.Answer.{Answer as Taking}
use Rattle.holding.specs.declared.taking.Answer.TheVariants.{Taken, Nothing, Short}
use Rattle.delivery.specs.Arrival.{verdict_number}
use Rattle.line.specs.Runs.{ReceiverEvent, arrive, take, sack, EventAnswer, judges, gives, tells, ReceiverLent, event_turn, start}
use Rattle.states.specs.declared.state.State.{State}
use Rattle.states.specs.declared.call.Call.TheVariants as call
use Rattle.states.specs.declared.rows.Row.{Row}
use Rattle.states.specs.declared.rows.Row.TheVariants.{Refused, ReadData, ReadLateData, AnswerInit, TakeInitAck, ReadSack, ReadSackPending, ReadSackReceived, EchoHeartbeat, ClearTries, BecomeClosed, ReadShutdown, CrossShutdown, RepeatShutdownAck, RepeatAck, ReflectComplete, SendComplete, PassError, ReadError, ReadEcho, BecomeEstablished, BecomeComplete, PassUnknown, TellUnknown}
use Rattle.association.specs.declared.ends.Association.{Association}
use Rattle.steps.specs.declared.chunk.Beside.{Beside}
use Rattle.steps.specs.declared.lent.Lent as lending
use Rattle.steps.specs.declared.lent.Made.{Made}
use Rattle.steps.specs.declared.lent.Echoed.{Echoed}
use Rattle.steps.specs.declared.lent.Echoed.TheVariants.{Bad, Stale, Good}
use Rattle.steps.specs.declared.meeting.Action.{Action}
use Rattle.steps.specs.Lent.{heeded}
use Rattle.steps.specs.Opening.{is_poor, is_cookie_odd}
use Rattle.steps.specs.Meeting.{action_of, starts_anew}
use Rattle.steps.specs.Carrying.{data_arriving, payload_of}
use Rattle.steps.specs.Steps.{row_met}
use Rattle.arriving.specs.Walked.{Turn, walk_begun, beside_at, turned}
use Rattle.arriving.specs.Arrival.{arrival_number}
use Rattle.calls.specs.Answer.{is_short_out, barred}
use Rattle.calls.specs.Opening.{associating}
use Rattle.calls.specs.Messages.{take_bar}
use Rattle.calls.specs.Acknowledging.{sack_values, no_sack}
use Rattle.events.specs.declared.event.Event.{Event}
use Rattle.events.specs.declared.event.Event.TheVariants.{Packet, Associate, HandIn, Transmit, Take, Acknowledge, T1, T2, T3, Shutdown, Abort, ErrorStream, ErrorStale, Heartbeat, Sample, Unknown}
use Rattle.events.specs.Happening.{Buffers}
use Rattle.demands.specs.News.{News, numbered, took, untaken, sacked, is_data}

pub data Heard : Type 0 where
  -- the receiving side is asked: by a DATA that the state reads, by a take, for a SACK
  asks : ReceiverEvent → Heard
  -- a DATA arrives that the state does not read: 7
  not-read : Heard
  -- a take into this output, or a SACK, is refused before that side is asked: 1, 18, 7
  take-barred : ℕ → List ℕ → Heard
  sack-barred : ℕ → Heard
  -- a fresh start, for a peer's initial TSN, with so many streams agreed
  begins : Tsn → ℕ → Heard

-- ---- of one chunk

-- "after our own INIT, the INIT ACK sets its point"
abbrev pub ack_start : List ℕ → List Heard
ack_start s =
    pick (is_poor (init_of s)) []
    (pick (is_cookie_odd (value_of COOKIE 4 s).len) [] (pick (is_there NAME s) [] (begins (init_of s).tsn (smaller 128 (init_of s).outs) ∷ [])))

-- "a good echo starts from a fresh record only where it restarts (A) or enters ESTABLISHED; else what was received stays" (02, T-08)
abbrev pub act_start : State → Made → Action → List Heard
act_start state m x = pick (starts_anew x state) (begins m.peer_tsn m.streams_in ∷ []) []

abbrev pub word_start : Association → Echoed → List Heard
word_start a (Good m) = act_start a.state m (action_of a.state a.ends m)
word_start a (Stale m) = []
word_start a Bad = []

abbrev pub echo_start : Association → Echoed → List ℕ → List Heard
echo_start a e s = pick (is_cookie_odd (part_from 4 s).len) [] (word_start a e)

-- a DATA, as the receiving side gets it
abbrev pub arrives : List ℕ → Heard
arrives s = asks (arrive (data_arriving s) (payload_of s))

-- by the row of the state table that it meets
abbrev pub row_heard : Association → Beside → List ℕ → Row → List Heard
row_heard a b s Refused = pick (is_data s) (not-read ∷ []) []
row_heard a b s ReadData = arrives s ∷ []
row_heard a b s ReadLateData = arrives s ∷ []
row_heard a b s TakeInitAck = ack_start s
row_heard a b s ReadEcho = echo_start a b.echoed s
row_heard a b s AnswerInit = []
row_heard a b s BecomeEstablished = []
row_heard a b s ReadSack = []
row_heard a b s ReadSackPending = []
row_heard a b s ReadSackReceived = []
row_heard a b s EchoHeartbeat = []
row_heard a b s ClearTries = []
row_heard a b s BecomeClosed = []
row_heard a b s PassError = []
row_heard a b s ReadError = []
row_heard a b s ReadShutdown = []
row_heard a b s CrossShutdown = []
row_heard a b s RepeatShutdownAck = []
row_heard a b s RepeatAck = []
row_heard a b s ReflectComplete = []
row_heard a b s SendComplete = []
row_heard a b s BecomeComplete = []
row_heard a b s (PassUnknown h) = []
row_heard a b s (TellUnknown h) = []

unfoldable pub chunk_heard : Association → Beside → List ℕ → List Heard
chunk_heard a b s = row_heard a b s (row_met a b s)

-- ---- of the chunks of a packet

-- the walk over them, and what is heard so far
pub record Hearing : Type 0 where
  pub walking : Turn
  pub heard : List Heard

-- the chunk at the head of s; one that is left unread asks nothing
unfoldable pub listened : Beside → List ℕ → List ℕ → Hearing → List ℕ → Hearing
listened b cookie packet h s = record {
  walking = turned (length packet - length s) b cookie s h.walking;
  heard = h.heard ++ pick h.walking.walked.unread [] (chunk_heard h.walking.walked.association (beside_at (length packet - length s) b) s);
}

-- every chunk of a packet that is let in
unfoldable pub listened_over : Association → List ℕ → List ℕ → lending.Lent → List ℕ → Echoed → Hearing
listened_over a area packet lent cookie e =
    over_items (listened (record { first = true; source = (header_of packet).source; lent = lent; echoed = e }) cookie packet)
    (record { walking = walk_begun a area; heard = [] }) packet 12

-- ---- of one call

unfoldable pub heard_of : Association → Event → Buffers → List Heard
heard_of a (Packet l e) b =
    pick (eqb (arrival_number a b.received b.input e b.out) 0)
    (listened_over a b.received b.input l b.cookie (heeded a.state a.ends e)).heard
    []
heard_of a Take b = pick (eqb (take_bar a b.received) 0) (asks (take b.out)) (take-barred (take_bar a b.received) b.out) ∷ []
heard_of a Acknowledge b =
    pick (eqb (barred a (is_short_out b.out) call.Acknowledge) 0) (asks sack) (sack-barred (barred a (is_short_out b.out) call.Acknowledge)) ∷ []
-- "our own INIT, starts from a fresh record"
heard_of a (Associate tag tsn port streams) b =
    pick (eqb (associating a tag tsn port streams b.out).number 0) (begins (record { 0 = 1 }) 128 ∷ []) []
heard_of a (HandIn stream unordered ppid) b = []
heard_of a Transmit b = []
heard_of a T1 b = []
heard_of a T2 b = []
heard_of a T3 b = []
heard_of a Shutdown b = []
heard_of a (Abort why) b = []
heard_of a (ErrorStream stream) b = []
heard_of a (ErrorStale port tag late) b = []
heard_of a (Heartbeat x y) b = []
heard_of a (Sample ms) b = []
heard_of a Unknown b = []

-- ---- what it does to the receiving side, once over the numberings N of chunks and of the ordered messages of a stream, and what is told of it

-- that side, its area, and how many streams the peer may use
pub record Side : Type 0 where
  pub lent : ReceiverLent
  pub streams : ℕ

abbrev pub side_of : Association → List ℕ → Side
side_of a area = record { lent = record { receiving = a.receiving; area = area }; streams = a.ends.streams_in }

abbrev pub side_by : Numberings → Side → Heard → Side
side_by N k (asks e) = record { lent = (event_turn N rail k.streams k.lent e).lent; streams = k.streams }
side_by N k not-read = k
side_by N k (take-barred n out) = k
side_by N k (sack-barred n) = k
side_by N k (begins t n) = record { lent = start N.tsn rail t k.lent.area; streams = n }

-- the output that an event lends
abbrev pub lent_by : ReceiverEvent → List ℕ
lent_by (arrive c bytes) = []
lent_by (take out) = out
lent_by sack = []

-- 0 with the message; 17; 18 with the length needed
abbrev pub heard_taken_as : List ℕ → Taking → List ℕ → News
heard_taken_as lent (Taken m) now = took lent m now
heard_taken_as lent Nothing now = untaken 17 0 now
heard_taken_as lent (Short n) now = untaken 18 n now

abbrev pub news_by : List ℕ → EventAnswer → News
news_by lent (judges v) = numbered (verdict_number v)
news_by lent (gives t now) = heard_taken_as lent t now
news_by lent (tells s) = sacked 0 (sack_values s)

abbrev pub said_of : Numberings → Side → Heard → List News
said_of N k (asks e) = news_by (lent_by e) (event_turn N rail k.streams k.lent e).answer ∷ []
said_of N k not-read = numbered 7 ∷ []
said_of N k (take-barred n out) = untaken n 0 out ∷ []
said_of N k (sack-barred n) = sacked n no_sack ∷ []
said_of N k (begins t n) = []

-- of all that is heard
unfoldable pub side_goes_on : Numberings → Side → List Heard → Side
side_goes_on N k [] = k
side_goes_on N k (h ∷ hs) = side_goes_on N (side_by N k h) hs

unfoldable pub said_on : Numberings → Side → List Heard → List News
said_on N k [] = []
said_on N k (h ∷ hs) = said_of N k h ++ said_on N (side_by N k h) hs

-- on our circles
abbrev pub circle_goes : Side → List Heard → Side
circle_goes = side_goes_on circles

abbrev pub circle_said : Side → List Heard → List News
circle_said = said_on circles
