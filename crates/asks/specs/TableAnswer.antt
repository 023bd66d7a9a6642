-- What a call over head and tables answers, and the answer of `calls` that it shows.
use Rattle.std.specs.Prelude.{ℕ, Bool, true, false, List, Result, Ok, Err}
use Rattle.numbers.specs.declared.keeping.Keeping.{Keeping}
use Rattle.numbers.specs.declared.refusal.Refusal.{Refusal}
use Rattle.numbers.specs.Refusal.{refusal_number}
use Rattle.sender.specs.declared.Sender.{Sender}
use Rattle.states.specs.declared.state.State.TheVariants.{Closed}
use Rattle.association.specs.Fresh.{with_state}
use Rattle.calls.specs.declared.answer.Answer.{Answer}
use Rattle.flat.specs.declared.head.Head.{Head}
use Rattle.flat.specs.Shown.{shown, bare, association_head}
use Rattle.asks.specs.declared.answer.Answered.{Answered}

-- what a call tells: a number, 0 if none; the bytes of the packet that was written; whether an expiry closed the association; the head
pub record Reply : Type 0 where
  pub number : ℕ
  pub length : ℕ
  pub over : Bool
  pub head : Head

-- the answer of `calls`, by the tables that then stand beside the head
abbrev pub answer_in : Reply → List ℕ → List ℕ → List ℕ → List ℕ → List ℕ → Answer
answer_in r held next places next_out kept = record {
  number = r.number;
  length = r.length;
  over = r.over;
  association = shown r.head held next places next_out kept;
}

-- and back: the answer over a head, of what it shows
abbrev pub answered_of : Answer → Reply
answered_of a = record { number = a.number; length = a.length; over = a.over; head = association_head a.association }

-- a head with another number-keeping, with another sending side
abbrev pub head_with_keeping : Head → Keeping → Head
head_with_keeping h k = record { state = h.state; ends = h.ends; keeping = k; sender = h.sender; cookie_len = h.cookie_len }

abbrev pub with_sender : Head → Sender → Head
with_sender h s = record { state = h.state; ends = h.ends; keeping = h.keeping; sender = s; cookie_len = h.cookie_len }

-- the ways to end: refused; done, with so many bytes sent; closed by an expiry
abbrev pub refused_with : Head → ℕ → Reply
refused_with h n = record { number = n; length = 0; over = false; head = h }

abbrev pub told_with : Head → ℕ → Reply
told_with h n = record { number = 0; length = n; over = false; head = h }

abbrev pub over_with : Head → Reply
over_with h = record { number = 0; length = 0; over = true; head = association_head (with_state (bare h) Closed) }

-- what is answered; where a call is refused, the head stays as it was
abbrev pub reply_done : Answered → Reply
reply_done a = record { number = 0; length = a.length; over = a.over; head = a.head }

abbrev pub reply_of : Head → Result Answered Refusal → Reply
reply_of h (Ok a) = reply_done a
reply_of h (Err r) = refused_with h (refusal_number r)
