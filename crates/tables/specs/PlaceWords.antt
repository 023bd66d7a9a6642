-- A table of the sending side's places as words, eight for each: the TSN, the order, the number of the message (the SSN), the PPID, then stream, length and
-- flags, then misses and status; two are no place's yet. Every list of words shows one list of places, each within the bounds of its type.
use Rattle.std.specs.Prelude.{ℕ, ◌+◌, ◌*◌, ◌/◌, ◌%◌, false, List, [], ◌∷◌, set, get_or, eqb, ltb}
use mir.Val.{bool_byte as bit}
use Rattle.numbers.specs.Circle.{tsn0, ssn0}
use Rattle.numbers.specs.Profile.{Profile}
use Rattle.octets.specs.Bytes.{laid}
use Rattle.scans.specs.Scan.{pick}
use Rattle.places.specs.declared.place.Chunk.{Chunk}
use Rattle.places.specs.declared.place.Place.{Place}
use Rattle.tables.specs.WordsLaws.{shown_from}

-- stream, length (below 4096: a payload has at most 512 bytes) and flags in a word
abbrev pub shape_of : Chunk → ℕ
shape_of c = c.stream.0 * 65536 + c.len % 4096 * 16 + bit c.begin + bit c.end * 2 + bit c.unordered * 4

-- misses and status in a word
abbrev pub state_word : Place → ℕ
state_word p = p.misses * 256 + p.status

-- the words of a place
abbrev pub place_words : Place → List ℕ
place_words p = p.chunk.tsn.0 ∷ p.chunk.order ∷ p.chunk.ssn.0 ∷ p.chunk.ppid ∷ shape_of p.chunk ∷ state_word p ∷ []

-- a place from its words, each field by as many bits as it has
unfoldable pub place_decoded : ℕ → ℕ → ℕ → ℕ → ℕ → ℕ → Place
place_decoded tsn order number ppid shape state = record {
  status = state % 256;
  misses = state / 256 % 256;
  chunk = record {
    tsn = record { 0 = tsn % 4294967296 };
    order = order % 4294967296;
    stream = record { 0 = shape / 65536 % 65536 };
    ssn = record { 0 = number % 65536 };
    ppid = ppid % 4294967296;
    len = shape / 16 % 4096;
    begin = eqb (shape % 2) 1;
    end = eqb (shape / 2 % 2) 1;
    unordered = eqb (shape / 4 % 2) 1;
  };
}

-- the place i of a table; a word past its end counts as 0
abbrev pub place_in : List ℕ → ℕ → Place
place_in ws i = place_decoded (get_or ws (8 * i) 0) (get_or ws (8 * i + 1) 0) (get_or ws (8 * i + 2) 0) (get_or ws (8 * i + 3) 0) (get_or ws (8 * i + 4) 0) (get_or ws (8 * i + 5) 0)

-- the places of a table, as many as a profile has
unfoldable pub places_of : Profile → List ℕ → List Place
places_of P ws = shown_from place_in 0 P.places ws

-- what stands past the last place: a free one
abbrev pub vacant : Place
vacant = record {
  status = 0;
  misses = 0;
  chunk = record { tsn = tsn0; order = 0; stream = record { 0 = 0 }; ssn = ssn0; ppid = 0; len = 0; begin = false; end = false; unordered = false };
}

-- the place i
abbrev pub place_at : Profile → List ℕ → ℕ → Place
place_at P ws i = get_or (places_of P ws) i vacant

-- the words with the place i, and with its misses and status alone; past the last place nothing is put
unfoldable pub place_put : Profile → List ℕ → ℕ → Place → List ℕ
place_put P ws i p = pick (ltb i P.places) (laid ws (8 * i) (place_words p)) ws

unfoldable pub state_put : Profile → List ℕ → ℕ → Place → List ℕ
state_put P ws i p = pick (ltb i P.places) (set ws (8 * i + 5) (state_word p)) ws
