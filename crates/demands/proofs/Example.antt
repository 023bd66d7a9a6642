-- The premises of demand 3 can be met: a packet with one DATA, the last number of the circle, arrives at a fresh association, and is told 0.
use Rattle.std.specs.Prelude.{ℕ, ◌+◌, ◌^◌, ◌≤◌, ◌≡◌, true, false, eqb, length}
use Rattle.std.proofs.Math.Path.{refl, ap}
use Rattle.std.proofs.Common.{◌∙◌, arith}
use mathlib.Core.List.{List, [], ◌∷◌, ◌++◌}
use borrow.Author.Tests.{le-ltb}
use Rattle.scans.specs.Scan.{pick}
use Rattle.octets.specs.Bytes.{big, u16, u32}
use Rattle.octets.specs.Walk.{size, walk_by, walk, first_item, over_items}
use Rattle.numbers.specs.Numbering.{ring, before, on, far}
use Rattle.numbers.specs.Profile.{rail}
use Rattle.numbers.specs.Judgement.{judged}
use Rattle.numbers.specs.Keeping.{fresh_keeping, offset_of, is_come}
use Rattle.crc32c_register.specs.Register.{bits, crc_from, crc_of}
use Rattle.crc32c.specs.Crc.{packet_crc}
use Rattle.crc32c.specs.Field.{field_of, sealed}
use Rattle.packets.specs.Header.{header_of}
use Rattle.packets.specs.Shape.{least, alone, chunk_filled, ill, shape_number}
use Rattle.packets.specs.Checks.{size_number, sum_number}
use Rattle.chunks.specs.Kind.{kind_of}
use Rattle.chunks.specs.Frame.{chunk_end, part_from}
use Rattle.chunks.specs.DataChunk.{data_of}
use Rattle.holding.specs.declared.held.Chunk.{Chunk}
use Rattle.holding.specs.Held.{holds}
use Rattle.delivery.specs.Receiving.{fresh_receiving, is_low, low_of}
use Rattle.delivery.specs.Contradiction.{contradicts, contradicts_next, clashes, is_contradicted}
use Rattle.delivery.specs.Arrival as arrival
use Rattle.line.specs.Runs.{arrive, start}
use Rattle.line.proofs.Example as sender
use Rattle.states.specs.declared.state.State.TheVariants.{Established}
use Rattle.states.specs.Rows.{row_of}
use Rattle.association.specs.declared.ends.Ends.{Ends}
use Rattle.association.specs.declared.ends.Association.{Association}
use Rattle.association.specs.Fresh.{started}
use Rattle.association.specs.Bounds.{are_agreed, are_ends, least_area, least_out, earlier}
use Rattle.association.specs.AssociationKeptLaws.{kept-started}
use Rattle.steps.specs.declared.lent.Lent.{Lent}
use Rattle.steps.specs.declared.lent.Echoed.TheVariants.{Bad}
use Rattle.steps.specs.Carrying.{data_arriving}
use Rattle.arriving.specs.Tags.{are_ports, rule_of, rule_for, head_number}
use Rattle.arriving.specs.Walked.{walk_begun}
use Rattle.arriving.specs.Arrival.{lent_number, packet_number, arrival_number}
use Rattle.events.specs.declared.event.Event.TheVariants.{Packet}
use Rattle.demands.specs.News.{numbered}
use Rattle.demands.specs.Heard.{Heard, asks, chunk_heard, listened, listened_over, heard_of, side_goes_on, said_on, circle_goes}
use Rattle.demands.specs.Stretch.{Host, Call, heard_in, side_in, begun_line, Stretch, host_told}
use Rattle.demands.proofs.HostDemandLaws.{host-demand-3}

-- from port 5000 to ours, 5001, with our tag, 1; a DATA with B and E, its payload of two bytes
abbrev packet : List ℕ
packet =
    0x13 ∷ 0x88 ∷ 0x13 ∷ 0x89 ∷ 0 ∷ 0 ∷ 0 ∷ 1 ∷ 61 ∷ 25 ∷ 189 ∷ 1 ∷ 0 ∷ 3 ∷ 0 ∷ 18 ∷ 255 ∷ 255 ∷ 255 ∷ 255 ∷ 0 ∷ 0 ∷ 0 ∷ 0 ∷ 0 ∷ 0 ∷ 0 ∷ 7 ∷ 0 ∷ 9 ∷ 0 ∷ 0 ∷ []

abbrev ends : Ends
ends = record { local_port = 5001; peer_port = 5000; my_tag = 1; peer_tag = 2; streams_in = 1; streams_out = 1; options = 0 }

-- fresh, for the peer's initial TSN
abbrev here : Association
here = started Established ends (record { 0 = 1 }) 1500 (record { 0 = sender.example_last }) 0

abbrev nothing : Lent
nothing = record { tag = 0; tsn = record { 0 = 0 }; streams = 0; options = 0 }

-- the DATA, as the receiving side gets it
abbrev came : Chunk
came = record { begin = true; end = true; unordered = false; tsn = record { 0 = sender.example_last }; stream = record { 0 = 0 }; ssn = record { 0 = 0 }; ppid = 7 }

abbrev heard : List Heard
heard = asks (arrive came (0 ∷ 9 ∷ [])) ∷ []

-- with any area of 65,536 bytes and output of 1,472
module _ (area out : List ℕ) (long : 65536 ≤ length area) (room : 1472 ≤ length out) where
  ended-well : are_ends ends true ≡ true
  unfolding are_ends are_agreed
  ended-well = refl

  lent-well : lent_number here (length area) (length out) ≡ 0
  unfolding lent_number
  lent-well =
      rw ((kept-started Established ends (record { 0 = 1 }) 1500 (record { 0 = sender.example_last }) 0 refl ended-well (omega arith) (omega arith) (omega arith)).sound, le-ltb (length area) least_area long, le-ltb (length out) least_out room)

  written-well : packet_number here packet Bad ≡ 0
  unfolding packet_number size_number sum_number sealed field_of packet_crc crc_of crc_from bits head_number are_ports rule_for rule_of header_of shape_number first_item walk walk_by size ill least chunk_filled alone u16 u32 big
  written-well = refl

  let-in : arrival_number here area packet Bad out ≡ 0
  unfolding arrival_number
  let-in = ap (λ (n : ℕ). earlier n (packet_number here packet Bad)) lent-well ∙ written-well

  one_chunk : (listened_over here area packet nothing [] Bad).heard ≡ heard
  unfolding listened_over over_items walk walk_by size u16 u32 big listened walk_begun chunk_heard row_of kind_of data_arriving data_of part_from chunk_end
  one_chunk = refl

  abbrev host : Host
  host = record { association = here; area = area }

  abbrev call : Call
  call = record { event = Packet nothing Bad; sent = []; input = packet; cookie = []; out = out }

  asked : heard_in host (call ∷ []) ≡ heard
  unfolding heard_in heard_of
  asked = (λ i. pick (eqb (let-in i) 0) (one_chunk i) [] ++ [])

  point-is : (begun_line sender.example_last 1 area).lent.receiving.keeping.point.0 + 1 ≡ sender.example_first
  unfolding fresh_receiving fresh_keeping before
  point-is = refl

  fresh-yet : circle_goes (side_in host) [] ≡ record { lent = start (ring (2 ^ 32)) rail (record { 0 = sender.example_last }) area; streams = 1 }
  unfolding side_goes_on
  fresh-yet = refl

  pub one-arrives : Stretch
  one-arrives = record {
    host = host;
    calls = call ∷ [];
    before = [];
    since = heard;
    asked = asked;
    initial = sender.example_last;
    small = omega arith;
    streams = 1;
    area = area;
    fresh = fresh-yet;
    chunk = sender.example_chunk;
    payload = sender.payload;
    honest = sender.honest;
    fair = (record { number = sender.example_first; from = omega arith; same = refl; whole = refl; near = (omega (arith, point-is), omega (arith, point-is)) }, tt);
  }

  -- what the host of the line receiver is told, and so ours
  pub told_here : host_told one-arrives ≡ numbered 0 ∷ []
  unfolding one-arrives said_on fresh_receiving fresh_keeping before on far judged offset_of is_come holds is_low low_of arrival.is_repeat arrival.is_wedged arrival.judgement_of contradicts contradicts_next clashes is_contradicted arrival.verdict_of arrival.arrived
  told_here = (host-demand-3 one-arrives).told
