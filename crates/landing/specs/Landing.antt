-- A packet arrives, over a head and lent tables: "Order: 1, 18, 2, 3, 4, 5, 6 for the packet; then chunk by chunk". The rules are those of `arriving`.
use Rattle.std.specs.Prelude.{ℕ, true, List, Result, Ok, Err, eqb, take, replicate}
use Rattle.scans.specs.Scan.{pick}
use Rattle.numbers.specs.declared.refusal.Refusal.{Refusal}
use Rattle.numbers.specs.Refusal.{refusal_number}
use Rattle.numbers.specs.Profile.{chunk_room, rail}
use Rattle.packets.specs.Header.{header_of}
use Rattle.steps.specs.declared.lent.Lent.{Lent}
use Rattle.steps.specs.declared.lent.Echoed.{Echoed}
use Rattle.steps.specs.Lent.{heeded}
use Rattle.arriving.specs.Arrival.{answered_length, answered_out, arrival_number}
use Rattle.flat.specs.declared.head.Head.{Head}
use Rattle.flat.specs.Shown.{shown}
use Rattle.rows.specs.Lending.{Standing}
use Rattle.landing.specs.declared.arrival.Landed.{Landed}
use Rattle.landing.specs.TableWalk.{TableTurn, table_turn_of, bare_walked, head_walk_begun, table_walked_over}

-- what a packet is told: its number, 0 if it was let in; then how many of its chunks have a verdict, the length of the reply, and the head
pub record Landing : Type 0 where
  pub number : ℕ
  pub count : ℕ
  pub length : ℕ
  pub head : Head

-- that, and all that is lent: held chunks, next expected SSNs, places to send, next SSNs, the bytes of the cookie, the area, the verdicts, the output
pub record After : Type 0 where
  pub landed : Landing
  pub held : List ℕ
  pub next : List ℕ
  pub places : List ℕ
  pub next_out : List ℕ
  pub kept : List ℕ
  pub area : List ℕ
  pub verdicts : List ℕ
  pub out : List ℕ

abbrev pub after_of : Landing → List ℕ → List ℕ → List ℕ → List ℕ → List ℕ → List ℕ → List ℕ → List ℕ → After
after_of r held next places next_out kept area verdicts out = record {
  landed = r;
  held = held;
  next = next;
  places = places;
  next_out = next_out;
  kept = kept;
  area = area;
  verdicts = verdicts;
  out = out;
}

-- the same, with what stands in the lent tables
abbrev pub after_over : Landing → Standing → List ℕ → List ℕ → After
after_over r t verdicts out = after_of r t.held t.next t.places t.next_out t.kept t.area verdicts out

-- "the whole packet" is refused
abbrev pub landing_refused_as : Head → ℕ → Landing
landing_refused_as h n = record { number = n; count = 0; length = 0; head = h }

-- what is told of a result; where the packet is refused, the head stays as it was
abbrev pub landing_done : Landed → Landing
landing_done r = record { number = 0; count = r.count; length = r.length; head = r.head }

abbrev pub landing_of : Head → Result Landed Refusal → Landing
landing_of h (Ok r) = landing_done r
landing_of h (Err r) = landing_refused_as h (refusal_number r)

-- a packet that is let in, with a reply of n bytes
abbrev pub landed_accepted : TableTurn → ℕ → Landing
landed_accepted t n = record { number = 0; count = t.walk.count; length = n; head = t.walk.head }

-- the replies gathered, at the head of their space
abbrev pub replies_gathered : TableTurn → List ℕ
replies_gathered t = take t.walk.used t.space

-- every chunk in turn, with the space for the replies empty
unfoldable pub packet_walked_over : List ℕ → Lent → List ℕ → Echoed → Head → List ℕ → List ℕ → List ℕ → List ℕ → List ℕ → List ℕ → List ℕ → TableTurn
packet_walked_over packet lent cookie e h held next places next_out kept area verdicts =
    table_walked_over (record { first = true; source = (header_of packet).source; lent = lent; echoed = e }) cookie packet
    (table_turn_of (head_walk_begun h) held next places next_out kept area verdicts (replicate (chunk_room rail) 0))

abbrev pub packet_walked_from : List ℕ → Lent → List ℕ → Echoed → Head → Standing → List ℕ → TableTurn
packet_walked_from packet lent cookie e h t verdicts = packet_walked_over packet lent cookie e h t.held t.next t.places t.next_out t.kept t.area verdicts

-- then what is sent
unfoldable pub let_in : TableTurn → List ℕ → List ℕ → After
let_in t packet out =
    after_of (landed_accepted t (answered_length (bare_walked t.walk) packet (replies_gathered t) out)) t.held t.next t.places t.next_out t.kept t.area t.verdicts
    (answered_out (bare_walked t.walk) packet (replies_gathered t) out)

-- what a packet leaves; one that is refused leaves all
unfoldable pub landed : List ℕ → Lent → List ℕ → Echoed → Head → List ℕ → List ℕ → List ℕ → List ℕ → List ℕ → List ℕ → List ℕ → List ℕ → After
landed packet lent cookie e h held next places next_out kept area verdicts out =
    pick (eqb (arrival_number (shown h held next places next_out kept) area packet e out) 0)
    (let_in (packet_walked_over packet lent cookie (heeded h.state h.ends e) h held next places next_out kept area verdicts) packet out)
    (after_of (landing_refused_as h (arrival_number (shown h held next places next_out kept) area packet e out)) held next places next_out kept area verdicts out)
