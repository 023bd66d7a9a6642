-- "SACK: the point, a window of 512 times the free places, gap blocks …, then the first 16 duplicates in order of arrival, whose list it empties."
use Rattle.std.specs.Prelude.{◌*◌}
use Rattle.numbers.specs.Profile.{Profile}
use Rattle.numbers.specs.Keeping.{keeping_told}
use Rattle.numbers.specs.Blocks.{blocks_of}
use Rattle.scans.specs.Scan.{count}
use Rattle.holding.specs.Held.{is_held_free}
use Rattle.delivery.specs.declared.receiving.Receiving.{Receiving}
use Rattle.delivery.specs.Receiving.{with_keeping}
use Rattle.delivery.specs.declared.acknowledging.Sack.{Sack}
use Rattle.delivery.specs.declared.acknowledging.Acknowledged.{Acknowledged}

-- what it tells
unfoldable pub receiving_sack : Profile → Receiving → Sack
receiving_sack P r = record {
  point = r.keeping.point;
  window = P.payload * count is_held_free r.held;
  blocks = blocks_of P r.keeping;
  dups = r.keeping.dups;
  listed = r.keeping.listed;
}

-- the record after it: the duplicates are told
unfoldable pub receiving_told : Profile → Receiving → Receiving
receiving_told P r = with_keeping r (keeping_told P r.keeping)

-- the SACK, with the record after it
unfoldable pub acknowledged_receiving : Profile → Receiving → Acknowledged
acknowledged_receiving P r = record { sack = receiving_sack P r; receiving = receiving_told P r }
