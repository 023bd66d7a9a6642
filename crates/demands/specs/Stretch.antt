-- The calls of a host, and the stretch of them from a fresh start up to the next one.
use Rattle.std.specs.Prelude.{ℕ, ◌+◌, ◌^◌, ◌<◌, ◌≤◌, ◌≡◌, List, [], ◌∷◌, ◌++◌, map, length, drop}
use Rattle.numbers.specs.Numbering.{ring, line, lines, NearerThan}
use Rattle.numbers.specs.Profile.{rail}
use Rattle.numbers.specs.KeepingLineLaws.{reduce_tsn}
use Rattle.chunks.specs.declared.sack.Sack.{Sack}
use Rattle.holding.specs.declared.held.Chunk.{Chunk}
use Rattle.delivery.specs.ReceivingSack.{acknowledged_receiving}
use Rattle.line.specs.Reduce.{reduce_chunk, reduce_message}
use Rattle.line.specs.Runs.{arrive, take, sack, ReceiverLent, start, reduce_lent}
use Rattle.line.specs.Sender.{HonestSender}
use Rattle.association.specs.declared.ends.Association.{Association}
use Rattle.events.specs.declared.event.Event.{Event}
use Rattle.events.specs.Happening.{Buffers, EventLeft, happened}
use Rattle.demands.specs.News.{News, numbered, took, untaken, sacked, news_of}
use Rattle.demands.specs.Heard.{Heard, asks, not-read, take-barred, sack-barred, begins, heard_of, Side, side_of, side_by, side_goes_on, said_on, circle_goes, circle_said}

-- ---- the calls of a host

-- what it keeps between them: the record, and the area that it lends for held chunks
pub record Host : Type 0 where
  pub association : Association
  pub area : List ℕ

-- a call, with all else that is lent for it
pub record Call : Type 0 where
  pub event : Event
  pub sent : List ℕ
  pub input : List ℕ
  pub cookie : List ℕ
  pub out : List ℕ

abbrev pub buffers_of : List ℕ → Call → Buffers
buffers_of area c = record { received = area; sent = c.sent; input = c.input; cookie = c.cookie; out = c.out }

abbrev pub left_by_call : Host → Call → EventLeft
left_by_call h c = happened h.association c.event (buffers_of h.area c)

abbrev pub after_call : Host → Call → Host
after_call h c = record { association = (left_by_call h c).ran.association; area = (left_by_call h c).received }

-- what it keeps after all of them, what it is told, and what they ask of the receiving side
unfoldable pub after_all : Host → List Call → Host
after_all h [] = h
after_all h (c ∷ cs) = after_all (after_call h c) cs

unfoldable pub news_told_in : Host → List Call → List News
news_told_in h [] = []
news_told_in h (c ∷ cs) = news_of c.event (buffers_of h.area c) (left_by_call h c) ++ news_told_in (after_call h c) cs

unfoldable pub heard_in : Host → List Call → List Heard
heard_in h [] = []
heard_in h (c ∷ cs) = heard_of h.association c.event (buffers_of h.area c) ++ heard_in (after_call h c) cs

abbrev pub side_in : Host → Side
side_in h = side_of h.association h.area

-- the window that a SACK would now tell: 512 for each free place
abbrev pub window_told : Host → ℕ
window_told h = (acknowledged_receiving rail h.association.receiving).sack.window

-- ---- what the line has, as the circles of n and m have it

abbrev pub reduce_values : ℕ → Sack → Sack
reduce_values n s = record { point = reduce_tsn n s.point; window = s.window; blocks = s.blocks; dups = map (reduce_tsn n) s.dups; listed = s.listed }

abbrev pub reduce_news : ℕ → ℕ → News → News
reduce_news n m (numbered k) = numbered k
reduce_news n m (took lent x now) = took lent (reduce_message m x) now
reduce_news n m (untaken k len now) = untaken k len now
reduce_news n m (sacked k s) = sacked k (reduce_values n s)

abbrev pub reduce_side : ℕ → ℕ → Side → Side
reduce_side n m k = record { lent = reduce_lent n m k.lent; streams = k.streams }

-- ---- a stretch

-- a DATA that arrives is the sender's, unchanged: its chunk of some number, from the first on, with its payload; and it lies less than 2,147,483,648 from
-- the point of the line receiver
pub record IsSent (first : ℕ) (chunk : ℕ → Chunk) (payload : ℕ → List ℕ) (l : ReceiverLent) (c : Chunk) (bytes : List ℕ) : Type 0 where
  pub number : ℕ
  pub from : first ≤ number
  pub same : c ≡ reduce_chunk (2 ^ 32) (2 ^ 16) (chunk number)
  pub whole : bytes ≡ payload number
  pub near : NearerThan (2 ^ 31) l.receiving.keeping.point.0 number

-- so is every one that the state reads, and there is no fresh start; k is the line receiver as it comes to them
abbrev pub Fairly : ℕ → (ℕ → Chunk) → (ℕ → List ℕ) → Side → List Heard → Type 0
Fairly first chunk payload k [] = Unit
Fairly first chunk payload k (asks (arrive c bytes) ∷ hs) =
    (x : IsSent first chunk payload k.lent c bytes) × Fairly first chunk payload (side_by lines k (asks (arrive (chunk x.number) (payload x.number)))) hs
Fairly first chunk payload k (asks (take out) ∷ hs) = Fairly first chunk payload (side_by lines k (asks (take out))) hs
Fairly first chunk payload k (asks sack ∷ hs) = Fairly first chunk payload (side_by lines k (asks sack)) hs
Fairly first chunk payload k (not-read ∷ hs) = Fairly first chunk payload k hs
Fairly first chunk payload k (take-barred n out ∷ hs) = Fairly first chunk payload k hs
Fairly first chunk payload k (sack-barred n ∷ hs) = Fairly first chunk payload k hs
Fairly first chunk payload k (begins t n ∷ hs) = ⊥

-- what is asked, as the line has it: the same chunks, with their numbers on the line
abbrev pub as_line : (first : ℕ) (chunk : ℕ → Chunk) (payload : ℕ → List ℕ) (k : Side) (hs : List Heard) → Fairly first chunk payload k hs → List Heard
as_line first chunk payload k [] f = []
as_line first chunk payload k (asks (arrive c bytes) ∷ hs) f =
    asks (arrive (chunk f.0.number) (payload f.0.number))
    ∷ as_line first chunk payload (side_by lines k (asks (arrive (chunk f.0.number) (payload f.0.number)))) hs f.1
as_line first chunk payload k (asks (take out) ∷ hs) f = asks (take out) ∷ as_line first chunk payload (side_by lines k (asks (take out))) hs f
as_line first chunk payload k (asks sack ∷ hs) f = asks sack ∷ as_line first chunk payload (side_by lines k (asks sack)) hs f
as_line first chunk payload k (not-read ∷ hs) f = not-read ∷ as_line first chunk payload k hs f
as_line first chunk payload k (take-barred n out ∷ hs) f = take-barred n out ∷ as_line first chunk payload k hs f
as_line first chunk payload k (sack-barred n ∷ hs) f = sack-barred n ∷ as_line first chunk payload k hs f
as_line first chunk payload k (begins t n ∷ hs) f = []

-- the line receiver for an initial TSN: on the line its first number is one turn further, so that there is one before it
abbrev pub begun_line : ℕ → ℕ → List ℕ → Side
begun_line initial streams area = record { lent = start line rail (record { 0 = initial + 2 ^ 32 }) area; streams = streams }

pub record Stretch : Type 0 where
  -- any record, lent area and calls
  pub host : Host
  pub calls : List Call
  -- what they ask of the receiving side, up to a fresh start and from there on; nothing before it, where the record is fresh already
  pub before : List Heard
  pub since : List Heard
  pub asked : heard_in host calls ≡ before ++ since
  -- the fresh start: any initial TSN, agreed streams and area
  pub initial : ℕ
  pub small : initial < 2 ^ 32
  pub streams : ℕ
  pub area : List ℕ
  pub fresh : circle_goes (side_in host) before ≡ record { lent = start (ring (2 ^ 32)) rail (record { 0 = initial }) area; streams = streams }
  -- the user's premises: an honest sender, and of the packets that arrive, that each DATA which is read is the sender's and near
  pub chunk : ℕ → Chunk
  pub payload : ℕ → List ℕ
  pub honest : HonestSender rail (initial + 2 ^ 32) streams chunk
  pub fair : Fairly (initial + 2 ^ 32) chunk payload (begun_line initial streams area) since

module _ (c : Stretch) where
  -- the line receiver as it begins, what it is asked, what it has then, and what its host is told
  abbrev pub line_start : Side
  line_start = begun_line c.initial c.streams c.area

  abbrev pub line_heard : List Heard
  line_heard = as_line (c.initial + 2 ^ 32) c.chunk c.payload line_start c.since c.fair

  abbrev pub line_side : Side
  line_side = side_goes_on lines line_start line_heard

  abbrev pub line_told : List News
  line_told = said_on lines line_start line_heard

  -- our host after its calls, its receiving side, and what it is told since the fresh start
  abbrev pub host_last : Host
  host_last = after_all c.host c.calls

  abbrev pub host_side : Side
  host_side = side_in host_last

  abbrev pub host_told : List News
  host_told = drop (length (circle_said (side_in c.host) c.before)) (news_told_in c.host c.calls)
