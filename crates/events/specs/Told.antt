-- What the host is told of an event: all that its call answers, and nothing else.
use Rattle.std.specs.Prelude.{ℕ, Bool, false, replicate}
use Rattle.numbers.specs.Circle.{tsn0}
use Rattle.numbers.specs.Profile.{most_chunks, rail}
use Rattle.chunks.specs.declared.sack.Sack.{Sack}
use Rattle.holding.specs.declared.taking.Message.{Message}
use Rattle.association.specs.declared.ends.Association.{Association}
use Rattle.calls.specs.declared.answer.Answer.{Answer}
use Rattle.calls.specs.declared.messages.HandedIn.{HandedIn}
use Rattle.calls.specs.declared.messages.Delivered.{Delivered}
use Rattle.calls.specs.declared.transmitting.Transmitted.{Transmitted}
use Rattle.calls.specs.declared.acknowledging.Acknowledged.{Acknowledged}
use Rattle.calls.specs.Messages.{no_message}
use Rattle.calls.specs.Acknowledging.{no_sack}
use Rattle.arriving.specs.declared.arrival.Arrived.{Arrived}
use Rattle.arriving.specs.ChunkVerdict.{unread_at}
use Rattle.events.specs.declared.told.Went.{Went}
use Rattle.events.specs.declared.told.Seen.{Seen}
use Rattle.events.specs.declared.told.Ran.{Ran}

-- what an event tells that sends no DATA, takes no message, brings no packet
abbrev pub none_went : Went
none_went = record { resent = false; first = tsn0; last = tsn0 }

abbrev pub none_seen : Seen
none_seen = record { count = 0; verdicts = replicate (most_chunks rail) (unread_at 0) }

-- all that an event can tell, and the record after it; below, what each call fills of it
abbrev pub telling : ℕ → ℕ → Bool → Went → Sack → Message → Seen → Association → Ran
telling number length over went sack message seen a = record {
  told = record { number = number; length = length; over = over; went = went; sack = sack; message = message; seen = seen };
  association = a;
}

abbrev pub plainly : ℕ → ℕ → Bool → Association → Ran
plainly number length over a = telling number length over none_went no_sack (no_message 0) none_seen a

abbrev pub of_answer : Answer → Ran
of_answer r = plainly r.number r.length r.over r.association

-- the length told is the number of chunks
abbrev pub of_handed_in : HandedIn → Ran
of_handed_in r = plainly r.number r.chunks false r.association

abbrev pub of_transmitted : Transmitted → Ran
of_transmitted r =
    telling r.number r.length false (record { resent = r.resent; first = r.first; last = r.last }) no_sack (no_message 0) none_seen r.association

abbrev pub of_acknowledged : Acknowledged → Ran
of_acknowledged r = telling r.number r.length false none_went r.sack (no_message 0) none_seen r.association

abbrev pub of_delivered : Delivered → Ran
of_delivered r = telling r.number r.message.length false none_went no_sack r.message none_seen r.association

abbrev pub of_arrived : Arrived → Ran
of_arrived r = telling r.number r.length false none_went no_sack (no_message 0) (record { count = r.count; verdicts = r.verdicts }) r.association
