-- A table of held chunks as words, four for each place: the TSN, the number of the message (the SSN), the PPID, and stream, length and flags. Every list of
-- words shows one list of places, each within the bounds of its type.
use Rattle.std.specs.Prelude.{ℕ, ◌+◌, ◌*◌, ◌/◌, ◌%◌, List, [], ◌∷◌, get_or, eqb, ltb}
use mir.Val.{bool_byte as bit}
use Rattle.numbers.specs.Profile.{Profile}
use Rattle.octets.specs.Bytes.{laid}
use Rattle.scans.specs.Scan.{pick}
use Rattle.holding.specs.declared.held.Held.{Held}
use Rattle.holding.specs.Held.{no_held}
use Rattle.tables.specs.WordsLaws.{shown_from}

-- stream, length (below 4096: a payload has at most 512 bytes) and flags in a word
abbrev pub last_word : Held → ℕ
last_word h = h.stream.0 * 65536 + h.len % 4096 * 16 + bit h.used + bit h.begin * 2 + bit h.end * 4 + bit h.unordered * 8

-- the words of a place
abbrev pub held_words : Held → List ℕ
held_words h = h.tsn.0 ∷ h.ssn.0 ∷ h.ppid ∷ last_word h ∷ []

-- a place from its words
unfoldable pub held_decoded : ℕ → ℕ → ℕ → ℕ → Held
held_decoded tsn number ppid last = record {
  used = eqb (last % 2) 1;
  begin = eqb (last / 2 % 2) 1;
  end = eqb (last / 4 % 2) 1;
  unordered = eqb (last / 8 % 2) 1;
  tsn = record { 0 = tsn % 4294967296 };
  stream = record { 0 = last / 65536 % 65536 };
  ssn = record { 0 = number % 65536 };
  ppid = ppid % 4294967296;
  len = last / 16 % 4096;
}

-- the place i of a table; a word past its end counts as 0
abbrev pub held_at : List ℕ → ℕ → Held
held_at ws i = held_decoded (get_or ws (4 * i) 0) (get_or ws (4 * i + 1) 0) (get_or ws (4 * i + 2) 0) (get_or ws (4 * i + 3) 0)

-- the places of a table, as many as a profile has
unfoldable pub held_of : Profile → List ℕ → List Held
held_of P ws = shown_from held_at 0 P.places ws

-- the words with the chunk in the place i; past the last place nothing is put
unfoldable pub held_put : Profile → List ℕ → ℕ → Held → List ℕ
held_put P ws i h = pick (ltb i P.places) (laid ws (4 * i) (held_words h)) ws

-- the words with the place i free
abbrev pub held_freed : Profile → List ℕ → ℕ → List ℕ
held_freed P ws i = held_put P ws i no_held
