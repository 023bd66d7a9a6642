-- What the host is told of the receiving side by a call, read off what the call leaves.
use Rattle.std.specs.Prelude.{ℕ, Bool, false, List, [], ◌∷◌, eqb, take, drop}
use Rattle.scans.specs.Scan.{pick}
use Rattle.octets.specs.Bytes.{u8}
use Rattle.chunks.specs.Types.{data_type}
use Rattle.chunks.specs.declared.sack.Sack.{Sack}
use Rattle.holding.specs.declared.taking.Message.{Message}
use Rattle.steps.specs.declared.verdict.Fate.TheVariants.{Unread}
use Rattle.arriving.specs.declared.verdict.Verdict.{Verdict}
use Rattle.arriving.specs.ChunkVerdict.{fate_code}
use Rattle.line.specs.Demand.{GivenMessage}
use Rattle.events.specs.declared.event.Event.{Event}
use Rattle.events.specs.declared.event.Event.TheVariants.{Packet, Associate, HandIn, Transmit, Take, Acknowledge, T1, T2, T3, Shutdown, Abort, ErrorStream, ErrorStale, Heartbeat, Sample, Unknown}
use Rattle.events.specs.Happening.{Buffers, EventLeft}

pub data News : Type 0 where
  -- of a DATA that arrives: its number
  numbered : ℕ → News
  -- of a take that gives a message: the output as it was lent, the message, and the output then
  took : List ℕ → Message → List ℕ → News
  -- of one that gives none: its number, the length that is told, and the output then
  untaken : ℕ → ℕ → List ℕ → News
  -- of a SACK: its number and its values
  sacked : ℕ → Sack → News

-- ---- by one call

-- the chunk at the head of s is a DATA
abbrev pub is_data : List ℕ → Bool
is_data s = eqb (u8 s 0) data_type

-- the verdict is of a DATA, which was not left unread
abbrev pub is_of_data : List ℕ → Verdict → Bool
is_of_data packet v = pick (eqb v.fate (fate_code Unread)) false (is_data (drop v.at packet))

-- of a packet: the numbers of its DATA, in order
unfoldable pub news_of_data : List ℕ → List Verdict → List News
news_of_data packet [] = []
news_of_data packet (v ∷ vs) = pick (is_of_data packet v) (numbered v.number ∷ news_of_data packet vs) (news_of_data packet vs)

-- of a take into the output that was lent
abbrev pub news_of_take : List ℕ → ℕ → Message → List ℕ → News
news_of_take lent number m now = pick (eqb number 0) (took lent m now) (untaken number m.length now)

-- of any call; no other tells of the receiving side
abbrev pub news_of : Event → Buffers → EventLeft → List News
news_of (Packet l e) b x = news_of_data b.input (take x.ran.told.seen.count x.ran.told.seen.verdicts)
news_of Take b x = news_of_take b.out x.ran.told.number x.ran.told.message x.out ∷ []
news_of Acknowledge b x = sacked x.ran.told.number x.ran.told.sack ∷ []
news_of (Associate tag tsn port streams) b x = []
news_of (HandIn stream unordered ppid) b x = []
news_of Transmit b x = []
news_of T1 b x = []
news_of T2 b x = []
news_of T3 b x = []
news_of Shutdown b x = []
news_of (Abort why) b x = []
news_of (ErrorStream stream) b x = []
news_of (ErrorStale port tag late) b x = []
news_of (Heartbeat y z) b x = []
news_of (Sample ms) b x = []
news_of Unknown b x = []

-- ---- the messages that takes gave

unfoldable pub given_in : List News → List GivenMessage
given_in [] = []
given_in (numbered n ∷ ts) = given_in ts
given_in (took lent m now ∷ ts) = record { lent = lent; message = m; output = now } ∷ given_in ts
given_in (untaken n len now ∷ ts) = given_in ts
given_in (sacked n s ∷ ts) = given_in ts
