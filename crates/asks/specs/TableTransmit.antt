-- One packet of DATA chunks over head and words: exact for any words.
use Rattle.std.specs.Prelude.{ℕ, Bool, false, List, eqb, Result, Ok, Err}
use Rattle.scans.specs.Scan.{pick}
use Rattle.numbers.specs.declared.circle.Tsn.{Tsn}
use Rattle.numbers.specs.declared.refusal.Refusal.{Refusal}
use Rattle.numbers.specs.Circle.{tsn0}
use Rattle.numbers.specs.Refusal.{refusal_number}
use Rattle.numbers.specs.Profile.{rail}
use Rattle.path.specs.Sizes.{rail_sizes}
use Rattle.choice.specs.Fill.{Fill, filled_in}
use Rattle.choice.specs.FillLaws.{chosen_of}
use Rattle.calls.specs.Packet.{to_peer}
use Rattle.calls.specs.Transmit.{bundled, bundle_length, bundle_out}
use Rattle.flat.specs.declared.head.Head.{Head}
use Rattle.asks.specs.declared.transmitting.Transmitted.{Transmitted}
use Rattle.asks.specs.TableAnswer.{with_sender}

-- the number, 0 if none; the bytes of the packet; whether one of its chunks is sent again, and its first and last TSN; the head
pub record PacketReply : Type 0 where
  pub number : ℕ
  pub length : ℕ
  pub resent : Bool
  pub first : Tsn
  pub last : Tsn
  pub head : Head

-- where the call is refused, the head stays as it was
abbrev pub no_packet_reply : Head → ℕ → PacketReply
no_packet_reply h n = record { number = n; length = 0; resent = false; first = tsn0; last = tsn0; head = h }

abbrev pub packet_reply_of : Head → Result Transmitted Refusal → PacketReply
packet_reply_of h (Ok t) = record { number = 0; length = t.length; resent = t.resent; first = t.first; last = t.last; head = t.head }
packet_reply_of h (Err r) = no_packet_reply h (refusal_number r)

-- the answer, the words of the places, the next SSNs, and the output
pub record Dispatch : Type 0 where
  pub answer : PacketReply
  pub places : List ℕ
  pub next : List ℕ
  pub out : List ℕ

-- the chunks that the sending side chooses
abbrev pub dispatched_by : Head → List ℕ → List ℕ → Fill → Dispatch
dispatched_by h area out f = record {
  answer = record {
    number = 0;
    length = bundle_length (bundled area (chosen_of rail f) out);
    resent = f.load.resent;
    first = f.load.first;
    last = f.load.last;
    head = with_sender h f.head;
  };
  places = f.words;
  next = f.ns;
  out = bundle_out (to_peer h.ends) (bundled area (chosen_of rail f) out);
}

abbrev pub not_dispatched : ℕ → Head → List ℕ → List ℕ → List ℕ → Dispatch
not_dispatched n h places next out = record {
  answer = no_packet_reply h n;
  places = places;
  next = next;
  out = out;
}

-- by the number that bars the call
unfoldable pub dispatched : ℕ → Head → List ℕ → List ℕ → List ℕ → List ℕ → Dispatch
dispatched n h places next area out = pick (eqb n 0) (dispatched_by h area out (filled_in rail_sizes rail h.sender places next)) (not_dispatched n h places next out)
