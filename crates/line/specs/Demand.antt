-- DEMAND 3, as a statement about any receiver. `DemandLaws` proves it of ours (`demand-3`); `BuildsLaws` shows that it is false of 01's wrong builds.
use Rattle.std.specs.Prelude.{ℕ, suc, ◌+◌, ◌*◌, ◌^◌, ◌<◌, ◌≤◌, ◌≡◌, false, List, [], ◌∷◌, ◌++◌, map, length, drop, eqb}
use Rattle.scans.specs.Scan.{pick}
use Rattle.numbers.specs.declared.circle.Tsn.{Tsn}
use Rattle.numbers.specs.Numbering.{Numberings, line, circles, lines}
use Rattle.numbers.specs.Profile.{Profile, rail}
use Rattle.numbers.specs.KeepingRoomLaws.{Distinct}
use Rattle.holding.specs.declared.held.Chunk.{Chunk}
use Rattle.holding.specs.declared.taking.Message.{Message}
use Rattle.holding.specs.declared.taking.Answer.{Answer as Taking}
use Rattle.holding.specs.declared.taking.Answer.TheVariants.{Taken, Nothing, Short}
use Rattle.holding.specs.Held.{as_held}
use Rattle.holding.specs.Taking.{written}
use Rattle.delivery.specs.declared.acknowledging.Sack.{Sack}
use Rattle.delivery.specs.Receiving.{low_of, taken_into}
use Rattle.delivery.specs.Arrival.{verdict_number, arrived}
use Rattle.delivery.specs.ReceivingSack.{acknowledged_receiving}
use Rattle.line.specs.Reduce.{reduce_chunk, reduce_message, reduce_taken, reduce_sack}
use Rattle.line.specs.Runs.{ReceiverEvent, arrive, take, sack, ReceiverLent, event_turn, start, reduce_event, Fair, up_from, Cut, bytes_from, message_from}
use Rattle.line.specs.Sender.{HonestSender, ordinal}

-- ---- a receiver, and what its host sees

-- what a call answers, and what the receiver then keeps
pub record ReceiverStep (A S : Type 0) : Type 0 where
  pub answer : A
  pub left : S

-- what a take answers: 0 with the message, 17, or 18 with the length needed; and what then stands in the output
pub record HostHanding : Type 0 where
  pub answer : Taking
  pub output : List ℕ

-- any receiver: what it keeps, and its calls
pub record Receiver : Type 1 where
  pub State : Type 0
  -- fresh, for a peer's initial TSN, with the area that it is lent
  pub begun : Tsn → List ℕ → State
  -- a chunk arrives with its payload, where so many streams are agreed; answered by a number
  pub arrive : ℕ → State → Chunk → List ℕ → ReceiverStep ℕ State
  -- a message is to be taken, into a lent output with these bytes in it
  pub take : State → List ℕ → ReceiverStep HostHanding State
  pub sack : State → ReceiverStep Sack State

-- what the host sees of one call
pub data HostSaw : Type 0 where
  number : ℕ → HostSaw
  -- the output as it was lent, the answer, and the output then
  gave : List ℕ → Taking → List ℕ → HostSaw
  told : Sack → HostSaw

-- what it sees of a sequence of calls
unfoldable pub seen : (R : Receiver) → ℕ → R.State → List ReceiverEvent → List HostSaw
seen R streams s [] = []
seen R streams s (arrive c bytes ∷ es) = number (R.arrive streams s c bytes).answer ∷ seen R streams (R.arrive streams s c bytes).left es
seen R streams s (take out ∷ es) = gave out (R.take s out).answer.answer (R.take s out).answer.output ∷ seen R streams (R.take s out).left es
seen R streams s (sack ∷ es) = told (R.sack s).answer ∷ seen R streams (R.sack s).left es

-- and what the receiver then keeps
unfoldable pub state_after : (R : Receiver) → ℕ → R.State → List ReceiverEvent → R.State
state_after R streams s [] = s
state_after R streams s (arrive c bytes ∷ es) = state_after R streams (R.arrive streams s c bytes).left es
state_after R streams s (take out ∷ es) = state_after R streams (R.take s out).left es
state_after R streams s (sack ∷ es) = state_after R streams (R.sack s).left es

-- the receiver of the rules that the code's promises cite (`event_turn`), over the numberings N of chunks and of the ordered messages of a stream
abbrev pub receiver_over : Numberings → Profile → Receiver
receiver_over N P = record {
  State = ReceiverLent;
  begun = start N.tsn P;
  arrive = λ streams l c bytes. record {
    answer = verdict_number (arrived N P l.receiving (as_held c (length bytes)) streams).verdict;
    left = (event_turn N P streams l (arrive c bytes)).lent;
  };
  take = λ l out. record {
    answer = record {
      answer = (taken_into N P l.receiving (length out)).answer;
      output = written N P l.receiving.held l.receiving.next l.receiving.keeping.point.0 l.area out;
    };
    left = (event_turn N P 0 l (take out)).lent;
  };
  sack = λ l. record { answer = (acknowledged_receiving P l.receiving).sack; left = (event_turn N P 0 l sack).lent };
}

-- the line receiver
abbrev pub on_the_line : Profile → Receiver
on_the_line P = receiver_over lines P

-- ours
abbrev pub ours : Receiver
ours = receiver_over circles rail

-- what the host of the line receiver sees, as the circles have it
abbrev pub reduce_seen : ℕ → ℕ → HostSaw → HostSaw
reduce_seen n m (number x) = number x
reduce_seen n m (gave out t now) = gave out (reduce_taken m t) now
reduce_seen n m (told s) = told (reduce_sack n s)

-- ---- the premises: the user's

-- any initial TSN, agreed streams and lent area; an honest sender; and calls among which each chunk that arrives is the sender's, unchanged, and less
-- than half a circle h from the point
pub record Premises (P : Profile) (h : ℕ) : Type 0 where
  pub initial : ℕ
  pub small : initial < h + h
  pub streams : ℕ
  pub area : List ℕ
  pub chunk : ℕ → Chunk
  pub payload : ℕ → List ℕ
  -- on the line its first number is one turn further, so that there is one before it
  pub honest : HonestSender P (initial + (h + h)) streams chunk
  pub events : List ReceiverEvent
  pub fair : Fair P h (initial + (h + h)) chunk payload streams (start line P (record { 0 = initial + (h + h) }) area) events

module _ {P : Profile} {h : ℕ} (c : Premises P h) where
  abbrev pub first : ℕ
  first = c.initial + (h + h)

  -- what the host of the line receiver sees, and what that receiver then has
  abbrev pub line_seen : List HostSaw
  line_seen = seen (on_the_line P) c.streams (start line P (record { 0 = first }) c.area) c.events

  abbrev pub lent_line_after : ReceiverLent
  lent_line_after = state_after (on_the_line P) c.streams (start line P (record { 0 = first }) c.area) c.events

  -- the same of a receiver that gets the numbers modulo n and m
  abbrev pub host_seen : ℕ → Receiver → List HostSaw
  host_seen m R = seen R c.streams (R.begun (record { 0 = c.initial }) c.area) (map (reduce_event (h + h) m) c.events)

  abbrev pub host_after : ℕ → (R : Receiver) → R.State
  host_after m R = state_after R c.streams (R.begun (record { 0 = c.initial }) c.area) (map (reduce_event (h + h) m) c.events)

-- ---- the messages that takes gave

-- the output as it was lent, the message, and the output then
pub record GivenMessage : Type 0 where
  pub lent : List ℕ
  pub message : Message
  pub output : List ℕ

abbrev pub given_by : List ℕ → Taking → List ℕ → List GivenMessage → List GivenMessage
given_by out (Taken m) now gs = record { lent = out; message = m; output = now } ∷ gs
given_by out Nothing now gs = gs
given_by out (Short n) now gs = gs

abbrev pub given : List HostSaw → List GivenMessage
given [] = []
given (number x ∷ zs) = given zs
given (gave out t now ∷ zs) = given_by out t now (given zs)
given (told s ∷ zs) = given zs

-- where a message lies on the line: its first number, and how many chunks it has
pub record Span : Type 0 where
  pub at : ℕ
  pub count : ℕ

-- what was given is the message there: one that the sender cut, its SSN brought back onto a circle of m; its bytes stand first in the output, and the
-- rest of it stays
pub record IsThere (m first : ℕ) (chunk : ℕ → Chunk) (payload : ℕ → List ℕ) (s : Span) (g : GivenMessage) : Type 0 where
  pub cut : Cut first chunk s.at s.count
  pub message : g.message ≡ reduce_message m (message_from chunk payload s.at s.count)
  pub bytes : g.output ≡ bytes_from payload s.at s.count ++ drop (length (bytes_from payload s.at s.count)) g.lent

-- one for the other, in turn
abbrev pub Match : {A B : Type 0} → (A → B → Type 0) → List A → List B → Type 0
Match Q [] [] = Unit
Match Q [] (y ∷ ys) = ⊥
Match Q (x ∷ xs) [] = ⊥
Match Q (x ∷ xs) (y ∷ ys) = Q x y × Match Q xs ys

-- of those that are ordered and of stream q, how many ordered messages of q the sender began before each
abbrev pub ordinals : ℕ → (ℕ → Chunk) → ℕ → List Span → List ℕ
ordinals first chunk q [] = []
ordinals first chunk q (s ∷ ss) =
    pick (pick (chunk s.at).unordered false (eqb (chunk s.at).stream.0 q))
    (ordinal first chunk q s.at ∷ ordinals first chunk q ss)
    (ordinals first chunk q ss)

-- the messages given, by index: different ones of the sender, each with its bytes; those of a stream in order are its first, second, third and on
pub record Messages (m first : ℕ) (chunk : ℕ → Chunk) (payload : ℕ → List ℕ) (gs : List GivenMessage) : Type 0 where
  pub index : List Span
  pub genuine : Match (IsThere m first chunk payload) index gs
  pub different : Distinct (map (λ (s : Span). s.at) index)
  pub in_order : (q : ℕ) → ordinals first chunk q index ≡ up_from 0 (length (ordinals first chunk q index))

-- ---- the demand

-- a chunk that arrives is held: it is answered 0, and a SACK then tells of a place less
abbrev pub Holds : Profile → (R : Receiver) → ℕ → R.State → Chunk → List ℕ → Type 0
Holds P R streams s c bytes =
    ((R.arrive streams s c bytes).answer ≡ 0) × ((R.sack (R.arrive streams s c bytes).left).answer.window + P.payload ≡ (R.sack s).answer.window)

-- in a profile, with half circles h of TSNs and k of SSNs
pub record Demand (P : Profile) (h k : ℕ) (R : Receiver) : Type 0 where
  -- what the host sees is what it would see of the line receiver, brought back onto the circle
  pub agrees : (c : Premises P h) → host_seen c (k + k) R ≡ map (reduce_seen (h + h) (k + k)) (line_seen c)
  -- none twice, none overtakes, none altered
  pub messages : (c : Premises P h) → P.payload * P.places ≤ length c.area → Messages (k + k) (first c) c.chunk c.payload (given (host_seen c (k + k) R))
  -- progress: the chunk next after the point, of a size that the profile allows, is held, unless what is held at or below the point ("low") fills the
  -- places; so whenever one is free
  pub progress : (c : Premises P h) (j : ℕ) → j ≡ suc (lent_line_after c).receiving.keeping.point.0 → 1 ≤ length (c.payload j) → length (c.payload j) ≤ P.payload
      → low_of line (lent_line_after c).receiving < P.places
      → Holds P R c.streams (host_after c (k + k) R) (reduce_chunk (h + h) (k + k) (c.chunk j)) (c.payload j)

-- at the rail's numbers: less than 2,147,483,648 from the point
abbrev pub Demand3 : Receiver → Type 0
Demand3 R = Demand rail (2 ^ 31) (2 ^ 15) R
