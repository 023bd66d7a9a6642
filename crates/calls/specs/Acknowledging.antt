-- "SACK: … Only the host's call builds it, where DATA is read."
use Rattle.std.specs.Prelude.{ℕ, List, eqb, replicate}
use Rattle.scans.specs.Scan.{pick}
use Rattle.numbers.specs.Circle.{tsn0}
use Rattle.numbers.specs.Blocks.{no_blocks}
use Rattle.numbers.specs.Profile.{rail}
use Rattle.chunks.specs.declared.sack.Sack.{Sack}
use Rattle.chunks.specs.SackChunk.{sack_bytes}
use Rattle.delivery.specs.declared.acknowledging.Sack as receiver
use Rattle.delivery.specs.declared.acknowledging.Acknowledged as told
use Rattle.delivery.specs.ReceivingSack.{acknowledged_receiving}
use Rattle.states.specs.declared.call.Call.TheVariants.{Acknowledge}
use Rattle.association.specs.declared.ends.Association.{Association}
use Rattle.association.specs.Fresh.{with_receiving}
use Rattle.calls.specs.declared.acknowledging.Acknowledged.{Acknowledged}
use Rattle.calls.specs.Packet.{to_peer, sent_length, sent_one}
use Rattle.calls.specs.Answer.{is_short_out, barred}

-- what the receiving side says, as a chunk's values
abbrev pub sack_values : receiver.Sack → Sack
sack_values k = record { point = k.point; window = k.window; blocks = k.blocks; dups = k.dups; listed = k.listed }

-- of a refused call: no SACK
abbrev pub no_sack : Sack
no_sack = record {
  point = tsn0;
  window = 0;
  blocks = no_blocks;
  dups = replicate rail.listed tsn0;
  listed = 0;
}

-- the values beside the packet; the duplicates are told
abbrev pub acknowledged_as : Association → told.Acknowledged → List ℕ → Acknowledged
acknowledged_as a k out = record {
  number = 0;
  length = sent_length (sack_bytes rail (sack_values k.sack)) out;
  sack = sack_values k.sack;
  association = with_receiving a k.receiving;
}

-- what the call answers
unfoldable pub acknowledged_call : Association → List ℕ → Acknowledged
acknowledged_call a out =
    pick (eqb (barred a (is_short_out out) Acknowledge) 0)
    (acknowledged_as a (acknowledged_receiving rail a.receiving) out)
    (record { number = barred a (is_short_out out) Acknowledge; length = 0; sack = no_sack; association = a })

-- what then stands in the lent output
unfoldable pub acknowledged_out : Association → List ℕ → List ℕ
acknowledged_out a out =
    pick (eqb (barred a (is_short_out out) Acknowledge) 0)
    (sent_one (to_peer a.ends) (sack_bytes rail (sack_values (acknowledged_receiving rail a.receiving).sack)) out)
    out
