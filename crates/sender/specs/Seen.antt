-- The sending side that a head and the words of its lent tables show.
use Rattle.std.specs.Prelude.{ℕ, zero, suc, ◌+◌, Bool, true, false, List, eqb}
use Rattle.numbers.specs.Profile.{Profile}
use Rattle.scans.specs.Scan.{pick}
use Rattle.places.specs.declared.place.Place.{Place}
use Rattle.sending.specs.declared.sending.Sending.{Sending}
use Rattle.tables.specs.PlaceWords.{places_of, place_at}
use Rattle.tables.specs.Ssns.{ssns_of}
use Rattle.sender.specs.declared.Sender.{Sender}

-- head, words of the places, next SSNs
abbrev pub sending_shown : Profile → Sender → List ℕ → List ℕ → Sending
sending_shown P h ws ns = record {
  acked = h.acked;
  next_tsn = h.next_tsn;
  advertised = h.advertised;
  oldest = h.oldest;
  places = places_of P ws;
  next = ssns_of P ns;
  path = h.path;
  mode = h.mode;
}

-- the head of a sending side
abbrev pub sender_head : Sending → Sender
sender_head s = record { acked = s.acked; next_tsn = s.next_tsn; advertised = s.advertised; oldest = s.oldest; path = s.path; mode = s.mode }

-- a place that is free and has no misses
abbrev pub is_blank : Place → Bool
is_blank p = pick (eqb p.status 0) (eqb p.misses 0) false

-- the n places from i on are
abbrev pub blank_for : Profile → List ℕ → ℕ → ℕ → Bool
blank_for P ws i zero = true
blank_for P ws i (suc n) = pick (is_blank (place_at P ws i)) (blank_for P ws (i + 1) n) false
