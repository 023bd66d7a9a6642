-- Messages over head and words: exact for any words.
use Rattle.std.specs.Prelude.{ℕ, Bool, List, eqb, length, Result, Ok, Err}
use Rattle.scans.specs.Scan.{pick}
use Rattle.numbers.specs.declared.circle.StreamId.{StreamId}
use Rattle.numbers.specs.Numbering.{circles}
use Rattle.numbers.specs.Refusal.{refusal_number}
use Rattle.numbers.specs.Profile.{rail}
use Rattle.holding.specs.declared.taking.Message.{Message}
use Rattle.holding.specs.Taking.{took, written}
use Rattle.tables.specs.HeldWords.{held_of}
use Rattle.tables.specs.Ssns.{ssns_of}
use Rattle.taking.specs.TakeWords.{words_taken, ssns_taken}
use Rattle.messages.specs.MessageWords.{Handing}
use Rattle.messages.specs.MessageWords as sender
use Rattle.calls.specs.declared.messages.Delivered as whole
use Rattle.calls.specs.Messages.{no_message, undelivered, delivered_as}
use Rattle.flat.specs.declared.head.Head.{Head}
use Rattle.flat.specs.Shown.{bare}
use Rattle.asks.specs.declared.delivering.Undelivered.{Undelivered}

-- ---- handing in

-- the answer, the words of the places, and the area
pub record Handover : Type 0 where
  pub answer : Handing
  pub places : List ℕ
  pub area : List ℕ

-- 19 and 20 are the sending side's
abbrev pub sender_handover : Head → List ℕ → List ℕ → List ℕ → StreamId → Bool → ℕ → Handover
sender_handover h places area message stream unordered ppid = record {
  answer = sender.handing rail h.sender places (length message) stream h.ends.streams_out;
  places = sender.handed_words rail h.sender places (length message) stream unordered ppid h.ends.streams_out;
  area = sender.handed_area rail h.sender places area message stream h.ends.streams_out;
}

abbrev pub not_handed : ℕ → List ℕ → List ℕ → Handover
not_handed n places area = record { answer = record { number = n; chunks = 0 }; places = places; area = area }

-- by the number that bars the call
unfoldable pub handed_over : ℕ → Head → List ℕ → List ℕ → List ℕ → StreamId → Bool → ℕ → Handover
handed_over n h places area message stream unordered ppid = pick (eqb n 0) (sender_handover h places area message stream unordered ppid) (not_handed n places area)

-- ---- taking

-- the number, 0 if none; the message, of which a refusal with 18 gives the length needed
pub record MessageReply : Type 0 where
  pub number : ℕ
  pub message : Message

abbrev pub message_reply_of : Result Message Undelivered → MessageReply
message_reply_of (Ok message) = record { number = 0; message = message }
message_reply_of (Err u) = record { number = refusal_number u.refusal; message = no_message u.needed }

-- the answer, the words of the held chunks, the next expected SSNs, and the output
pub record Delivery : Type 0 where
  pub answer : MessageReply
  pub held : List ℕ
  pub next : List ℕ
  pub out : List ℕ

-- what is given beside the record
abbrev pub delivered_beside : whole.Delivered → MessageReply
delivered_beside d = record { number = d.number; message = d.message }

-- 17, and 18 for the output
abbrev pub delivered_by : Head → List ℕ → List ℕ → List ℕ → List ℕ → Delivery
delivered_by h held next area out = record {
  answer = delivered_beside (delivered_as (took circles rail (held_of rail held) (ssns_of rail next) h.keeping.point.0 (length out)).answer (bare h));
  held = words_taken circles rail held next h.keeping.point.0 (length out);
  next = ssns_taken circles rail held next h.keeping.point.0 (length out);
  out = written circles rail (held_of rail held) (ssns_of rail next) h.keeping.point.0 area out;
}

abbrev pub not_delivered : ℕ → Head → List ℕ → List ℕ → List ℕ → Delivery
not_delivered n h held next out = record { answer = delivered_beside (undelivered (bare h) n 0); held = held; next = next; out = out }

-- by the number that bars the call
unfoldable pub delivered_from : ℕ → Head → List ℕ → List ℕ → List ℕ → List ℕ → Delivery
delivered_from n h held next area out = pick (eqb n 0) (delivered_by h held next area out) (not_delivered n h held next out)
