-- What the host is told of an event, whichever it was.
use Rattle.std.specs.Prelude.{ℕ, Bool, false}
use Rattle.numbers.specs.Circle.{tsn0}
use Rattle.holding.specs.declared.taking.Message.{Message}
use Rattle.chunks.specs.declared.sack.Sack.{Sack}
use Rattle.calls.specs.declared.answer.Answer as whole
use Rattle.calls.specs.Messages.{no_message}
use Rattle.calls.specs.Acknowledging.{no_sack}
use Rattle.messages.specs.MessageWords.{Handing}
use Rattle.landing.specs.Landing.{Landing}
use Rattle.asks.specs.TableAnswer.{Reply}
use Rattle.asks.specs.TableAcknowledging.{SackReply}
use Rattle.asks.specs.TableMessages.{MessageReply}
use Rattle.asks.specs.TableTransmit.{PacketReply}
use Rattle.events.specs.declared.told.Went.{Went}
use Rattle.happening.specs.declared.told.Told.{Told}

-- what an event tells that sends no DATA
abbrev pub no_data_went : Went
no_data_went = record { resent = false; first = tsn0; last = tsn0 }

-- all that an event can tell; below, what each call fills of it
abbrev pub telling_count : ℕ → ℕ → Bool → Went → Sack → Message → ℕ → Told
telling_count number length over went sack message count = record { number = number; length = length; over = over; went = went; sack = sack; message = message; count = count }

abbrev pub told_plainly : ℕ → ℕ → Bool → Told
told_plainly number length over = telling_count number length over no_data_went no_sack (no_message 0) 0

abbrev pub of_answered : Reply → Told
of_answered r = told_plainly r.number r.length r.over

abbrev pub told_of_answer : whole.Answer → Told
told_of_answer r = told_plainly r.number r.length r.over

-- the length told is the number of chunks
abbrev pub of_handed : Handing → Told
of_handed r = told_plainly r.number r.chunks false

abbrev pub told_of_transmitted : PacketReply → Told
told_of_transmitted r = telling_count r.number r.length false (record { resent = r.resent; first = r.first; last = r.last }) no_sack (no_message 0) 0

abbrev pub of_sack : ℕ → ℕ → Sack → Told
of_sack number length sack = telling_count number length false no_data_went sack (no_message 0) 0

abbrev pub told_of_sack : SackReply → Told
told_of_sack r = of_sack r.number r.length r.sack

abbrev pub told_of_delivered : MessageReply → Told
told_of_delivered r = telling_count r.number r.message.length false no_data_went no_sack r.message 0

abbrev pub of_landed : Landing → Told
of_landed r = telling_count r.number r.length false no_data_went no_sack (no_message 0) r.count
