-- What a receiver answers to a sequence of arrivals, takes and acknowledgements, once over the numberings N of chunks and of the ordered
-- messages of a stream. `circles` give the receiver that the code is; `lines` give the line receiver. Each turn is what the promises of
-- `Receiving::arrive`, `take` and `sack` cite.
use Rattle.std.specs.Prelude.{ℕ, zero, suc, ◌+◌, ◌-◌, ◌<◌, ◌≤◌, ◌≡◌, Bool, true, false, List, [], ◌∷◌, ◌++◌, length, drop, eqb, ltb, leb}
use Rattle.scans.specs.Scan.{pick, count, any}
use Rattle.numbers.specs.declared.circle.Tsn.{Tsn}
use Rattle.numbers.specs.Numbering.{Numbering, Numberings, lines, NearerThan}
use Rattle.numbers.specs.Profile.{Profile}
use Rattle.numbers.specs.BlocksLaws.{has, block_list}
use Rattle.holding.specs.declared.held.Chunk.{Chunk}
use Rattle.holding.specs.declared.held.Held.{Held}
use Rattle.holding.specs.declared.taking.Message.{Message}
use Rattle.holding.specs.declared.taking.Answer.{Answer as Taking}
use Rattle.holding.specs.declared.taking.Answer.TheVariants.{Taken, Nothing, Short}
use Rattle.holding.specs.Held.{as_held, holds}
use Rattle.holding.specs.Message.{Choice, none, one, chosen, chunks_at}
use Rattle.holding.specs.Taking.{length_of, written}
use Rattle.delivery.specs.declared.receiving.Receiving.{Receiving}
use Rattle.delivery.specs.declared.arrival.Verdict.{Verdict}
use Rattle.delivery.specs.declared.acknowledging.Sack.{Sack}
use Rattle.delivery.specs.Receiving.{fresh_receiving, taken_into}
use Rattle.delivery.specs.Arrival.{arrived, arrival_area}
use Rattle.delivery.specs.ReceivingSack.{acknowledged_receiving}
use Rattle.line.specs.Reduce.{reduce_chunk, reduce, reduce_taken, reduce_sack}

-- ---- what is asked, and what is answered

-- a call of the receiver
pub data ReceiverEvent : Type 0 where
  -- a chunk arrives, with its payload
  arrive : Chunk → List ℕ → ReceiverEvent
  -- a message is to be taken, into a lent output with these bytes in it
  take : List ℕ → ReceiverEvent
  sack : ReceiverEvent

-- what it answers
pub data EventAnswer : Type 0 where
  -- 0, 9 to 14, 21, 24
  judges : Verdict → EventAnswer
  -- 0 with the message, 17, or 18 with the length needed; and what then stands in the output
  gives : Taking → List ℕ → EventAnswer
  tells : Sack → EventAnswer

-- an answer other than the verdict v
abbrev pub Never : Verdict → EventAnswer → Type 0
Never v (judges w) = w ≡ v → ⊥
Never v (gives t out) = Unit
Never v (tells s) = Unit

-- a receiver: its record, and the area that it was lent
pub record ReceiverLent : Type 0 where
  pub receiving : Receiving
  pub area : List ℕ

-- the answer to one event, and what the receiver then has
pub record EventTurn : Type 0 where
  pub answer : EventAnswer
  pub lent : ReceiverLent

-- an event, answered by the rules that the code's promises cite
abbrev pub event_turn : Numberings → Profile → ℕ → ReceiverLent → ReceiverEvent → EventTurn
event_turn N P streams l (arrive c bytes) = record {
  answer = judges (arrived N P l.receiving (as_held c (length bytes)) streams).verdict;
  lent = record {
    receiving = (arrived N P l.receiving (as_held c (length bytes)) streams).receiving;
    area = arrival_area N P l.receiving (as_held c (length bytes)) streams l.area bytes;
  };
}
event_turn N P streams l (take out) = record {
  answer = gives (taken_into N P l.receiving (length out)).answer (written N P l.receiving.held l.receiving.next l.receiving.keeping.point.0 l.area out);
  lent = record { receiving = (taken_into N P l.receiving (length out)).receiving; area = l.area };
}
event_turn N P streams l sack = record {
  answer = tells (acknowledged_receiving P l.receiving).sack;
  lent = record { receiving = (acknowledged_receiving P l.receiving).receiving; area = l.area };
}

-- a fresh record for a peer whose first number is t, and an area
abbrev pub start : Numbering → Profile → Tsn → List ℕ → ReceiverLent
start T P t area = record { receiving = fresh_receiving T P t; area = area }

-- what a receiver answers to a sequence of events
unfoldable pub answers : Numberings → Profile → ℕ → ReceiverLent → List ReceiverEvent → List EventAnswer
answers N P streams l [] = []
answers N P streams l (e ∷ es) = (event_turn N P streams l e).answer ∷ answers N P streams (event_turn N P streams l e).lent es

-- and what it then has
unfoldable pub finally : Numberings → Profile → ℕ → ReceiverLent → List ReceiverEvent → ReceiverLent
finally N P streams l [] = l
finally N P streams l (e ∷ es) = finally N P streams (event_turn N P streams l e).lent es

-- ---- the events and answers of the line, as the circles have them

abbrev pub reduce_event : ℕ → ℕ → ReceiverEvent → ReceiverEvent
reduce_event n m (arrive c bytes) = arrive (reduce_chunk n m c) bytes
reduce_event n m (take out) = take out
reduce_event n m sack = sack

abbrev pub reduce_answer : ℕ → ℕ → EventAnswer → EventAnswer
reduce_answer n m (judges v) = judges v
reduce_answer n m (gives t out) = gives (reduce_taken m t) out
reduce_answer n m (tells s) = tells (reduce_sack n s)

abbrev pub reduce_lent : ℕ → ℕ → ReceiverLent → ReceiverLent
reduce_lent n m l = record { receiving = reduce n m l.receiving; area = l.area }

-- ---- the premise on arrivals

-- each chunk that arrives is the sender's, with its payload, and less than h from the point up to which all has come
abbrev pub Fair : Profile → ℕ → ℕ → (ℕ → Chunk) → (ℕ → List ℕ) → ℕ → ReceiverLent → List ReceiverEvent → Type 0
Fair P h first chunk payload streams l [] = Unit
Fair P h first chunk payload streams l (arrive c bytes ∷ es) =
    ((n : ℕ) × (first ≤ n) × (c ≡ chunk n) × (bytes ≡ payload n) × NearerThan h l.receiving.keeping.point.0 n)
    × Fair P h first chunk payload streams (event_turn lines P streams l (arrive c bytes)).lent es
Fair P h first chunk payload streams l (take out ∷ es) = Fair P h first chunk payload streams (event_turn lines P streams l (take out)).lent es
Fair P h first chunk payload streams l (sack ∷ es) = Fair P h first chunk payload streams (event_turn lines P streams l sack).lent es

-- ---- what a run gave

-- in how many places the number is held
unfoldable pub copies : List Held → ℕ → ℕ
copies hs n = count (holds n) hs

-- whether a SACK of the line tells that number n has come: it lies from the first to the point, or in one of the blocks
unfoldable pub acknowledges : ℕ → Sack → ℕ → Bool
acknowledges first s n =
    pick (ltb n first) false (pick (leb n s.point.0) true (any (has (n - s.point.0)) (block_list s.blocks)))

-- the chunks of the message that a take into so many bytes gives, none where it gives no message
abbrev pub chunks_handed_by : List Held → ℕ → Choice → List Held
chunks_handed_by hs room none = []
chunks_handed_by hs room (one k is) = pick (ltb room (length_of hs is)) [] (chunks_at hs is)

-- of the message that the take chooses
unfoldable pub chunks_handed : Numberings → Profile → Receiving → ℕ → List Held
chunks_handed N P r room = chunks_handed_by r.held room (chosen N P r.held r.next r.keeping.point.0)

-- the chunks of every take of a run, one list for each
abbrev pub takes_handed : Profile → ℕ → ReceiverLent → List ReceiverEvent → List (List Held)
takes_handed P streams l [] = []
takes_handed P streams l (arrive c bytes ∷ es) = takes_handed P streams (event_turn lines P streams l (arrive c bytes)).lent es
takes_handed P streams l (take out ∷ es) = chunks_handed lines P l.receiving (length out) ∷ takes_handed P streams (event_turn lines P streams l (take out)).lent es
takes_handed P streams l (sack ∷ es) = takes_handed P streams (event_turn lines P streams l sack).lent es

-- all of them in a row
abbrev pub joined_all : List (List Held) → List Held
joined_all [] = []
joined_all (cs ∷ css) = cs ++ joined_all css

-- the message that a take gives is an ordered one of stream q
abbrev pub is_ordered_in : ℕ → Taking → Bool
is_ordered_in q (Taken m) = pick m.unordered false (eqb m.stream.0 q)
is_ordered_in q Nothing = false
is_ordered_in q (Short n) = false

-- the SSN of the message that a take gives
abbrev pub ssn_of : Taking → ℕ
ssn_of (Taken m) = m.ssn.0
ssn_of Nothing = 0
ssn_of (Short n) = 0

-- the SSNs of the ordered messages of stream q that a run gave
abbrev pub order_given : ℕ → List EventAnswer → List ℕ
order_given q [] = []
order_given q (judges v ∷ zs) = order_given q zs
order_given q (gives t out ∷ zs) = pick (is_ordered_in q t) (ssn_of t ∷ order_given q zs) (order_given q zs)
order_given q (tells s ∷ zs) = order_given q zs

-- a, a + 1 and on
abbrev pub up_from : ℕ → ℕ → List ℕ
up_from a zero = []
up_from a (suc k) = a ∷ up_from (a + 1) k

-- ---- the messages that the sender cut

-- the message that begins with number f has k chunks
pub record Cut (first : ℕ) (chunk : ℕ → Chunk) (f k : ℕ) : Type 0 where
  pub from : first ≤ f
  pub some : 0 < k
  pub begins : (chunk f).begin ≡ true
  pub ends : (n : ℕ) → f ≤ n → n < f + k → (chunk n).end ≡ eqb (suc n) (f + k)

-- its bytes
abbrev pub bytes_from : (ℕ → List ℕ) → ℕ → ℕ → List ℕ
bytes_from payload f zero = []
bytes_from payload f (suc k) = payload f ++ bytes_from payload (suc f) k

-- its chunks, as they are held
abbrev pub chunks_from : (ℕ → Chunk) → (ℕ → ℕ) → ℕ → ℕ → List Held
chunks_from chunk size f zero = []
chunks_from chunk size f (suc k) = as_held (chunk f) (size f) ∷ chunks_from chunk size (suc f) k

-- what the host is to be told of it
abbrev pub message_from : (ℕ → Chunk) → (ℕ → List ℕ) → ℕ → ℕ → Message
message_from chunk payload f k = record {
  length = length (bytes_from payload f k);
  stream = (chunk f).stream;
  unordered = (chunk f).unordered;
  ssn = (chunk f).ssn;
  ppid = (chunk f).ppid;
}

-- the message m that a take gave is one that the sender cut, its bytes stand first in the output, and the rest of it stays
pub record Gave (first : ℕ) (chunk : ℕ → Chunk) (payload : ℕ → List ℕ) (out : List ℕ) (given : List Held) (m : Message) (now : List ℕ) : Type 0 where
  pub at : ℕ
  pub count : ℕ
  pub cut : Cut first chunk at count
  pub told : m ≡ message_from chunk payload at count
  pub given_is : given ≡ chunks_from chunk (λ (n : ℕ). length (payload n)) at count
  pub written_is : now ≡ bytes_from payload at count ++ drop (length (bytes_from payload at count)) out

-- a message that the sender cut needs n bytes
pub record Needs (first : ℕ) (chunk : ℕ → Chunk) (payload : ℕ → List ℕ) (n : ℕ) : Type 0 where
  pub at : ℕ
  pub count : ℕ
  pub cut : Cut first chunk at count
  pub long : n ≡ length (bytes_from payload at count)

-- an answer to a take into `out`: a refusal leaves the output and gives no chunk
abbrev pub Genuine : ℕ → (ℕ → Chunk) → (ℕ → List ℕ) → List ℕ → List Held → Taking → List ℕ → Type 0
Genuine first chunk payload out given (Taken m) now = Gave first chunk payload out given m now
Genuine first chunk payload out given Nothing now = (given ≡ []) × (now ≡ out)
Genuine first chunk payload out given (Short n) now = (given ≡ []) × (now ≡ out) × Needs first chunk payload n
