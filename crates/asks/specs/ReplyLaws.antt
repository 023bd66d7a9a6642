-- Two results that read alike are one; and which of two refusals is told. Assumes nothing.
use Rattle.std.specs.Prelude.{ℕ, ◌≡◌, Result, Ok, Err}
use borrow.Author.Tests.{ne_eqb}
use Rattle.std.proofs.Common.{sym, ap}
use Rattle.numbers.specs.declared.refusal.Refusal.{Refusal}
use Rattle.numbers.specs.RefusalLaws.{refusals-apart, refusal-never-none}
use Rattle.holding.specs.declared.taking.Message.{Message}
use Rattle.association.specs.Bounds.{earlier}
use Rattle.flat.specs.declared.head.Head.{Head}
use Rattle.asks.specs.declared.answer.Answered.{Answered}
use Rattle.asks.specs.declared.acknowledging.Acknowledged.{Acknowledged}
use Rattle.asks.specs.declared.delivering.Undelivered.{Undelivered}
use Rattle.asks.specs.declared.transmitting.Transmitted.{Transmitted}
use Rattle.asks.specs.TableAnswer.{Reply, reply_of}
use Rattle.asks.specs.TableAcknowledging.{SackReply, sack_reply_of}
use Rattle.asks.specs.TableMessages.{MessageReply, message_reply_of}
use Rattle.asks.specs.TableTransmit.{PacketReply, packet_reply_of}

pub replies-apart : (h : Head) (r q : Result Answered Refusal) → reply_of h r ≡ reply_of h q → r ≡ q
replies-apart h (Ok a) (Ok b) e = ap (λ (x : Reply). Ok (record { length = x.length; over = x.over; head = x.head })) e
replies-apart h (Ok a) (Err b) e = absurd (refusal-never-none b (sym (ap (λ (x : Reply). x.number) e)))
replies-apart h (Err a) (Ok b) e = absurd (refusal-never-none a (ap (λ (x : Reply). x.number) e))
replies-apart h (Err a) (Err b) e = ap Err (refusals-apart a b (ap (λ (x : Reply). x.number) e))

pub sack-replies-apart : (h : Head) (r q : Result Acknowledged Refusal) → sack_reply_of h r ≡ sack_reply_of h q → r ≡ q
sack-replies-apart h (Ok a) (Ok b) e = ap (λ (x : SackReply). Ok (record { length = x.length; sack = x.sack; head = x.head })) e
sack-replies-apart h (Ok a) (Err b) e = absurd (refusal-never-none b (sym (ap (λ (x : SackReply). x.number) e)))
sack-replies-apart h (Err a) (Ok b) e = absurd (refusal-never-none a (ap (λ (x : SackReply). x.number) e))
sack-replies-apart h (Err a) (Err b) e = ap Err (refusals-apart a b (ap (λ (x : SackReply). x.number) e))

pub message-replies-apart : (r q : Result Message Undelivered) → message_reply_of r ≡ message_reply_of q → r ≡ q
message-replies-apart (Ok a) (Ok b) e = ap (λ (x : MessageReply). Ok x.message) e
message-replies-apart (Ok a) (Err b) e = absurd (refusal-never-none b.refusal (sym (ap (λ (x : MessageReply). x.number) e)))
message-replies-apart (Err a) (Ok b) e = absurd (refusal-never-none a.refusal (ap (λ (x : MessageReply). x.number) e))
message-replies-apart (Err a) (Err b) e =
    λ i. Err (record { refusal = refusals-apart a.refusal b.refusal (ap (λ (x : MessageReply). x.number) e) i; needed = (e i).message.length })

pub packet-replies-apart : (h : Head) (r q : Result Transmitted Refusal) → packet_reply_of h r ≡ packet_reply_of h q → r ≡ q
packet-replies-apart h (Ok a) (Ok b) e =
    ap (λ (x : PacketReply). Ok (record { length = x.length; resent = x.resent; first = x.first; last = x.last; head = x.head })) e
packet-replies-apart h (Ok a) (Err b) e = absurd (refusal-never-none b (sym (ap (λ (x : PacketReply). x.number) e)))
packet-replies-apart h (Err a) (Ok b) e = absurd (refusal-never-none a (ap (λ (x : PacketReply). x.number) e))
packet-replies-apart h (Err a) (Err b) e = ap Err (refusals-apart a b (ap (λ (x : PacketReply). x.number) e))

-- a refusal comes before what is tested after it
pub earlier-first : {m b : ℕ} (n : ℕ) → m ≡ b → (m ≡ 0 → ⊥) → m ≡ earlier b n
earlier-first {m} n e ne = rw (← e, ne_eqb m 0 ne)
