-- What a call answers: "for other calls 1, 18, 7, 19, 20".
use Rattle.std.specs.Prelude.{ℕ, ◌≡◌, Bool, true, false, List, [], ltb, eqb, length}
use Rattle.scans.specs.Scan.{pick}
use Rattle.packets.specs.declared.header.Header.{Header}
use Rattle.states.specs.declared.state.State.TheVariants.{Closed}
use Rattle.states.specs.declared.call.Call.{Call}
use Rattle.states.specs.Calls.{permitted}
use Rattle.association.specs.declared.ends.Association.{Association}
use Rattle.association.specs.Fresh.{with_state}
use Rattle.association.specs.Bounds.{least_out, least_area, first_number}
use Rattle.calls.specs.declared.answer.Answer.{Answer}
use Rattle.calls.specs.Packet.{to_peer, sent_length, sent_one}

-- what is lent is too short
abbrev pub is_short_out : List ℕ → Bool
is_short_out out = ltb (length out) least_out

abbrev pub is_short_area : List ℕ → Bool
is_short_area area = ltb (length area) least_area

-- 1 "record outside its bounds", 18 "lent output or area too short", 7 "call not for this state"
unfoldable pub barred : Association → Bool → Call → ℕ
barred a short call = first_number a short (pick (permitted call a.state) 0 7)

-- a call: its number, the record after it, whether an expiry closed it, and the packet of one chunk that goes out, if one does
pub record Plan : Type 0 where
  pub number : ℕ
  pub association : Association
  pub over : Bool
  pub sends : Bool
  pub header : Header
  pub chunk : List ℕ

-- a refused call leaves all
abbrev pub refusing : Association → ℕ → Plan
refusing a n = record { number = n; association = a; over = false; sends = false; header = to_peer a.ends; chunk = [] }

-- done, with nothing to send
abbrev pub quietly : Association → Plan
quietly a = refusing a 0

-- done, with a packet of one chunk to send
abbrev pub carrying_chunk : Association → Header → List ℕ → Plan
carrying_chunk a h bs = record { number = 0; association = a; over = false; sends = true; header = h; chunk = bs }

-- "the next expiry closes and reports": nothing but the state changes
abbrev pub closing_plan : Association → Plan
closing_plan a = record { number = 0; association = with_state a Closed; over = true; sends = false; header = to_peer a.ends; chunk = [] }

-- a call that no number refuses goes as planned
abbrev pub unless : ℕ → Association → Plan → Plan
unless n a p = pick (eqb n 0) p (refusing a n)

-- what the host gets, and what then stands in its output
unfoldable pub answer_of : Plan → List ℕ → Answer
answer_of p out = record {
  number = p.number;
  length = pick p.sends (sent_length p.chunk out) 0;
  over = p.over;
  association = p.association;
}

unfoldable pub plan_out : Plan → List ℕ → List ℕ
plan_out p out = pick p.sends (sent_one p.header p.chunk out) out

-- the promise of a call
pub record CallDone (p : Plan) (out : List ℕ) (r : Answer) (exit : List ℕ) : Type 0 where
  pub answer : r ≡ answer_of p out
  pub bytes : exit ≡ plan_out p out

-- the promise of a call with no output
pub record QuietlyDone (p : Plan) (r : Answer) : Type 0 where
  pub answer : r ≡ answer_of p []
