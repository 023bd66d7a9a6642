-- The receiving side over tables of words: the record that the words show, the words that each verdict leaves, and what a SACK tells.
use Rattle.std.specs.Prelude.{ℕ, List, [], Option, Some, None}
use Rattle.numbers.specs.declared.keeping.Keeping.{Keeping}
use Rattle.numbers.specs.Keeping as keeping
use Rattle.numbers.specs.Numbering.{Numberings}
use Rattle.numbers.specs.Profile.{Profile}
use Rattle.scans.specs.Scan.{find_from}
use Rattle.holding.specs.declared.held.Held.{Held}
use Rattle.holding.specs.Held.{is_held_free}
use Rattle.tables.specs.HeldWords.{held_of, held_put}
use Rattle.tables.specs.Ssns.{ssns_of}
use Rattle.delivery.specs.declared.receiving.Receiving.{Receiving}
use Rattle.delivery.specs.declared.arrival.Verdict.{Verdict}
use Rattle.delivery.specs.declared.arrival.Verdict.TheVariants.{Kept, Empty, Long, Opposite, Duplicate, Wedged, Far, Stray, Clashing}
use Rattle.delivery.specs.Arrival.{verdict_of, receiving_after}
use Rattle.delivery.specs.ReceivingSack.{receiving_sack}
use Rattle.reception.specs.declared.arrival.Arrived.{Arrived}
use Rattle.reception.specs.declared.acknowledging.Acknowledged.{Acknowledged}

-- the receiving side that number-keeping, the words of the places and those of the next expected SSNs show
abbrev pub receiving_shown : Profile → Keeping → List ℕ → List ℕ → Receiving
receiving_shown P k ws ns = record { keeping = k; held = held_of P ws; next = ssns_of P ns }

-- the words with the chunk in the place that was found
abbrev pub words_kept : Profile → List ℕ → Held → Option ℕ → List ℕ
words_kept P ws h (Some i) = held_put P ws i h
words_kept P ws h None = ws

-- only a chunk that is held changes the words
abbrev pub arrival_words : Profile → List ℕ → Held → Verdict → List ℕ
arrival_words P ws h Kept = words_kept P ws h (find_from is_held_free 0 (held_of P ws))
arrival_words P ws h Empty = ws
arrival_words P ws h Long = ws
arrival_words P ws h Opposite = ws
arrival_words P ws h Duplicate = ws
arrival_words P ws h Wedged = ws
arrival_words P ws h Far = ws
arrival_words P ws h Stray = ws
arrival_words P ws h Clashing = ws

-- the words of the places afterwards
unfoldable pub words_after : Numberings → Profile → Receiving → List ℕ → Held → ℕ → List ℕ
words_after N P r ws h streams = arrival_words P ws h (verdict_of N P r h streams)

-- what is told beside the words: the verdict, and number-keeping after it
unfoldable pub arrival_told : Numberings → Profile → Receiving → Held → ℕ → Arrived
arrival_told N P r h streams = record { verdict = verdict_of N P r h streams; keeping = (receiving_after N.tsn P r h (verdict_of N P r h streams)).keeping }

-- what a SACK tells, in which the next expected SSNs have no part, and number-keeping after it
unfoldable pub sacked : Profile → Keeping → List ℕ → Acknowledged
sacked P k ws = record { sack = receiving_sack P (receiving_shown P k ws []); keeping = keeping.keeping_told P k }
