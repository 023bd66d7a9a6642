-- One packet of DATA chunks: "One call fills one packet, or answers length 0".
use Rattle.std.specs.Prelude.{ℕ, ◌+◌, false, List, ltb, eqb, drop, get_or}
use Rattle.scans.specs.Scan.{pick, fold_from, either}
use Rattle.numbers.specs.Circle.{tsn0}
use Rattle.numbers.specs.Profile.{rail}
use Rattle.octets.specs.Writing.{wrote_count, bytes_wrote_at}
use Rattle.packets.specs.declared.header.Header.{Header}
use Rattle.packets.specs.Header.{filled_count, filled_bytes}
use Rattle.chunks.specs.declared.data.Data.{Data}
use Rattle.chunks.specs.DataChunk.{data_bytes}
use Rattle.path.specs.Sizes.{rail_sizes}
use Rattle.places.specs.declared.place.Chunk.{Chunk}
use Rattle.places.specs.declared.place.Place.{Place}
use Rattle.sending.specs.declared.choosing.Chosen.{Chosen}
use Rattle.sending.specs.Sending.{no_place}
use Rattle.sending.specs.Choose.{packet_filled}
use Rattle.holding.specs.Taking.{payload_at}
use Rattle.states.specs.declared.call.Call.TheVariants.{Transmit}
use Rattle.association.specs.declared.ends.Association.{Association}
use Rattle.association.specs.Fresh.{with_sending}
use Rattle.calls.specs.declared.transmitting.Transmitted.{Transmitted}
use Rattle.calls.specs.Packet.{to_peer}
use Rattle.calls.specs.Answer.{is_short_area, is_short_out, barred}

-- the fields of a chunk that goes out
abbrev pub data_sent : Chunk → Data
data_sent c = record { tsn = c.tsn; stream = c.stream; ssn = c.ssn; ppid = c.ppid; begin = c.begin; end = c.end; unordered = c.unordered }

-- the chunk of place i, its payload from the place's bytes in the area
unfoldable pub chunk_bytes : List ℕ → Place → ℕ → List ℕ
chunk_bytes area p i = data_bytes rail (data_sent p.chunk) (payload_at rail area i p.chunk.len)

-- the packet so far: its chunks end at `at`
pub record Bundle : Type 0 where
  pub at : ℕ
  pub out : List ℕ

-- a chunk behind those before
unfoldable pub added : List ℕ → Place → ℕ → Bundle → Bundle
added area p i t = record {
  at = t.at + wrote_count (drop t.at t.out) (chunk_bytes area p i);
  out = bytes_wrote_at t.out t.at (chunk_bytes area p i);
}

-- the k-th of the `count` places chosen
abbrev pub added_chosen : List ℕ → ℕ → List Place → Bundle → ℕ → ℕ → Bundle
added_chosen area count ps t k i = pick (ltb k count) (added area (get_or ps i no_place) i t) t

-- the chunks of every place chosen, in the order of choice
unfoldable pub bundled : List ℕ → Chosen → List ℕ → Bundle
bundled area f out = fold_from (added_chosen area f.count f.sending.places) (record { at = 12; out = out }) 0 f.places

-- a packet with no chunk is none
unfoldable pub bundle_length : Bundle → ℕ
bundle_length b = filled_count b.at b.out

unfoldable pub bundle_out : Header → Bundle → List ℕ
bundle_out h b = filled_bytes h b.at b.out

-- 1, 18 for the area or the output, 7
abbrev pub transmit_bar : Association → List ℕ → List ℕ → ℕ
transmit_bar a area out = barred a (either (is_short_area area) (is_short_out out)) Transmit

-- the chunks that the sending side chooses
abbrev pub transmitted_as : Association → List ℕ → List ℕ → Chosen → Transmitted
transmitted_as a area out f = record {
  number = 0;
  length = bundle_length (bundled area f out);
  resent = f.resent;
  first = f.first;
  last = f.last;
  association = with_sending a f.sending;
}

-- what the call answers
unfoldable pub transmitted : Association → List ℕ → List ℕ → Transmitted
transmitted a area out =
    pick (eqb (transmit_bar a area out) 0)
    (transmitted_as a area out (packet_filled rail_sizes rail a.sending))
    (record { number = transmit_bar a area out; length = 0; resent = false; first = tsn0; last = tsn0; association = a })

-- what then stands in the lent output
unfoldable pub transmitted_out : Association → List ℕ → List ℕ → List ℕ
transmitted_out a area out =
    pick (eqb (transmit_bar a area out) 0)
    (bundle_out (to_peer a.ends) (bundled area (packet_filled rail_sizes rail a.sending) out))
    out
