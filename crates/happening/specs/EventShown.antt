-- What an event over tables tells and leaves, beside what the definition (`events`) says of the record that its head and tables show.
use Rattle.std.specs.Prelude.{ℕ, ◌*◌, ◌<◌, ◌≡◌, List, length, get_or, take, drop}
use Rattle.arriving.specs.declared.verdict.Verdict.{Verdict}
use Rattle.flat.specs.declared.head.Association.{Association}
use Rattle.flat.specs.Shown.{shows}
use Rattle.rows.specs.TableRowsLaws.{Sized}
use Rattle.landing.specs.Verdicts.{all_verdict_words}
use Rattle.events.specs.declared.event.Event.{Event}
use Rattle.events.specs.declared.event.Event.TheVariants.{Packet, Associate, HandIn, Transmit, Take, Acknowledge, T1, T2, T3, Shutdown, Abort, ErrorStream, ErrorStale, Heartbeat, Sample, Unknown}
use Rattle.events.specs.declared.told.Told as definition-told
use Rattle.events.specs.Happening.{Buffers, lent_buffers, EventLeft}
use Rattle.happening.specs.declared.told.Told.{Told}
use Rattle.happening.specs.TableTold.{telling_count}
use Rattle.happening.specs.TableHappening.{TableBuffers, TablesLeft}
use Rattle.numbers.specs.Profile.{held_word_count, place_word_count, verdict_word_count, rail}

-- what is lent, less the words of the verdicts, which the definition tells as a list
abbrev pub buffers_shown : TableBuffers → Buffers
buffers_shown b = lent_buffers b.received b.sent b.input b.cookie b.out

-- what is told, less that list
abbrev pub told_shown : definition-told.Told → Told
told_shown t = telling_count t.number t.length t.over t.went t.sack t.message t.seen.count

-- the verdicts that the definition tells
abbrev pub verdicts_in : EventLeft → List Verdict
verdicts_in d = take d.ran.told.seen.count d.ran.told.seen.verdicts

-- l shows d. The words lent for verdicts are 1,460 (365 chunks of four): of so many, the first tell the verdicts, and those behind stay. That is the array's
-- type, which no contract over `&mut [u32; 1460]` learns
pub record EventShows (words : List ℕ) (l : TablesLeft) (d : EventLeft) : Type 0 where
  pub told : l.ran.told ≡ told_shown d.ran.told
  pub association : shows l.ran.association ≡ d.ran.association
  pub received : l.received ≡ d.received
  pub sent : l.sent ≡ d.sent
  pub out : l.out ≡ d.out
  pub verdicts : length words ≡ verdict_word_count rail → take (4 * d.ran.told.seen.count) l.verdicts ≡ all_verdict_words (verdicts_in d)
  pub rest : length words ≡ verdict_word_count rail → drop (4 * d.ran.told.seen.count) l.verdicts ≡ drop (4 * d.ran.told.seen.count) words

-- what an event asks of the types of its record, its values and its buffers: how long a table is, and how large a number. Every call has it: `running::run`
-- shows it of its own parameters
abbrev pub EventTyped : Association → TableBuffers → Event → Type 0
EventTyped a b (Packet l e) =
    Sized a.held a.next_in a.places a.next_out a.cookie × ((i : ℕ) → get_or b.input i 0 < 256)
EventTyped a b (Associate tag tsn port streams) = Unit
EventTyped a b (HandIn stream unordered ppid) = (length a.places ≡ place_word_count rail) × (stream.0 < 65536) × (ppid < 4294967296)
EventTyped a b Transmit = (length a.places ≡ place_word_count rail) × (length a.next_out ≡ rail.streams) × (a.head.sender.next_tsn.0 < 4294967296)
EventTyped a b Take = (length a.held ≡ held_word_count rail) × (length a.next_in ≡ rail.streams)
EventTyped a b Acknowledge = Unit
EventTyped a b T1 = Unit
EventTyped a b T2 = Unit
EventTyped a b T3 = length a.places ≡ place_word_count rail
EventTyped a b Shutdown = Unit
EventTyped a b (Abort why) = Unit
EventTyped a b (ErrorStream stream) = Unit
EventTyped a b (ErrorStale port tag late) = Unit
EventTyped a b (Heartbeat x y) = Unit
EventTyped a b (Sample ms) = Unit
EventTyped a b Unknown = Unit
