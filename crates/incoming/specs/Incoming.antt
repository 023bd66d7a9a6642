-- The receiving side by value: its tables word by word after a chunk, after a take and after a SACK.
use Rattle.std.specs.Prelude.{ℕ, ◌^◌, replicate}
use Rattle.numbers.specs.declared.circle.Tsn.{Tsn}
use Rattle.numbers.specs.Keeping as keeping
use Rattle.numbers.specs.Numbering.{ring, circles}
use Rattle.numbers.specs.Profile.{rail, held_word_count}
use Rattle.holding.specs.declared.held.Held.{Held}
use Rattle.holding.specs.Taking.{took}
use Rattle.tables.specs.HeldWords.{held_of}
use Rattle.tables.specs.Ssns.{ssns_of}
use Rattle.taking.specs.TakeWords.{words_taken, ssns_taken}
use Rattle.delivery.specs.declared.receiving.Receiving.{Receiving}
use Rattle.reception.specs.Reception.{receiving_shown, arrival_told, words_after, sacked}
use Rattle.incoming.specs.declared.Incoming.{Incoming}
use Rattle.incoming.specs.declared.Came.{Came}
use Rattle.incoming.specs.declared.Took.{Took}
use Rattle.incoming.specs.declared.Told.{Told}

-- what it shows
abbrev pub incoming_shown : Incoming → Receiving
incoming_shown r = receiving_shown rail r.keeping r.held r.next

abbrev pub incoming_begun : Tsn → Incoming
incoming_begun t = record { keeping = keeping.fresh_keeping (ring (2 ^ 32)) rail t; held = replicate (held_word_count rail) 0; next = replicate rail.streams 0 }

abbrev pub came_to : Incoming → Held → ℕ → Came
came_to r h streams = record {
  verdict = (arrival_told circles rail (incoming_shown r) h streams).verdict;
  incoming = record {
    keeping = (arrival_told circles rail (incoming_shown r) h streams).keeping;
    held = words_after circles rail (incoming_shown r) r.held h streams;
    next = r.next;
  };
}

abbrev pub took_from : Incoming → ℕ → Took
took_from r room = record {
  answer = (took circles rail (held_of rail r.held) (ssns_of rail r.next) r.keeping.point.0 room).answer;
  incoming = record {
    keeping = r.keeping;
    held = words_taken circles rail r.held r.next r.keeping.point.0 room;
    next = ssns_taken circles rail r.held r.next r.keeping.point.0 room;
  };
}

abbrev pub incoming_told : Incoming → Told
incoming_told r = record {
  sack = (sacked rail r.keeping r.held).sack;
  incoming = record { keeping = (sacked rail r.keeping r.held).keeping; held = r.held; next = r.next };
}
