-- The answer of `calls` that a SACK over head and tables shows.
use Rattle.std.specs.Prelude.{ℕ, List, Result, Ok, Err}
use Rattle.numbers.specs.declared.refusal.Refusal.{Refusal}
use Rattle.numbers.specs.Refusal.{refusal_number}
use Rattle.chunks.specs.declared.sack.Sack.{Sack}
use Rattle.calls.specs.declared.acknowledging.Acknowledged as whole
use Rattle.calls.specs.Acknowledging.{no_sack}
use Rattle.flat.specs.declared.head.Head.{Head}
use Rattle.flat.specs.Shown.{shown, association_head}
use Rattle.asks.specs.declared.acknowledging.Acknowledged.{Acknowledged}

-- the number, 0 if none; the bytes of the packet; what it says; the head
pub record SackReply : Type 0 where
  pub number : ℕ
  pub length : ℕ
  pub sack : Sack
  pub head : Head

-- where the call is refused, nothing is said, and the head stays as it was
abbrev pub sack_reply_of : Head → Result Acknowledged Refusal → SackReply
sack_reply_of h (Ok a) = record { number = 0; length = a.length; sack = a.sack; head = a.head }
sack_reply_of h (Err r) = record { number = refusal_number r; length = 0; sack = no_sack; head = h }

-- by the tables that stand beside the head
abbrev pub acknowledged_in : SackReply → List ℕ → List ℕ → List ℕ → List ℕ → List ℕ → whole.Acknowledged
acknowledged_in r held next places next_out kept = record {
  number = r.number;
  length = r.length;
  sack = r.sack;
  association = shown r.head held next places next_out kept;
}

-- and back
abbrev pub acknowledged_of : whole.Acknowledged → SackReply
acknowledged_of a = record { number = a.number; length = a.length; sack = a.sack; head = association_head a.association }
