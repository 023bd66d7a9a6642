-- A take over tables of words: the words of the places and of the next expected SSNs that it leaves.
use Rattle.std.specs.Prelude.{ℕ, zero, suc, ◌+◌, Bool, true, false, List, [], ◌∷◌, get_or, take, drop, ltb, Option, Some, None}
use Rattle.numbers.specs.Circle.{ssn0}
use Rattle.numbers.specs.Numbering.{Numbering, Numberings, on}
use Rattle.numbers.specs.Profile.{Profile}
use Rattle.scans.specs.Scan.{pick, find_from}
use Rattle.holding.specs.declared.held.Held.{Held}
use Rattle.holding.specs.Held.{no_held}
use Rattle.holding.specs.Message.{Run, broken, whole, Choice, none, one, chunks_at, chosen}
use Rattle.holding.specs.Taking.{length_of, first_held}
use Rattle.tables.specs.HeldWords.{held_of, held_freed}
use Rattle.tables.specs.Ssns.{ssns_of, ssn_put}

-- the n places from i on are free
abbrev pub free_for : List Held → ℕ → ℕ → Bool
free_for hs i zero = true
free_for hs i (suc n) = pick (get_or hs i no_held).used false (free_for hs (i + 1) n)

-- the first place from `from` on that is used
abbrev pub next_used : List Held → ℕ → Option ℕ
next_used hs from = find_from (λ (h : Held). h.used) from (drop from hs)

-- the run that the first n places of a list stand for; without a number it is broken
abbrev pub run_at : List ℕ → Option ℕ → Run
run_at at None = broken
run_at at (Some n) = whole (take n at)

-- "and frees its places", one after the other
abbrev pub words_emptied : Profile → List ℕ → List ℕ → List ℕ
words_emptied P ws [] = ws
words_emptied P ws (i ∷ is) = words_emptied P (held_freed P ws i) is

-- the next expected SSN of an ordered message's stream goes up by one
unfoldable pub ssns_advanced : Numbering → Profile → List ℕ → Held → List ℕ
ssns_advanced S P ns h = pick h.unordered ns (ssn_put P ns h.stream.0 (record { 0 = on S (get_or (ssns_of P ns) h.stream.0 ssn0).0 1 }))

-- the words after a take of the message chosen into `room` bytes
abbrev pub take_words : Profile → List ℕ → ℕ → Choice → List ℕ
take_words P ws room none = ws
take_words P ws room (one k is) = pick (ltb room (length_of (held_of P ws) is)) ws (words_emptied P ws is)

abbrev pub ssns_by : Numbering → Profile → List ℕ → List ℕ → ℕ → Choice → List ℕ
ssns_by S P ws ns room none = ns
ssns_by S P ws ns room (one k is) = pick (ltb room (length_of (held_of P ws) is)) ns (ssns_advanced S P ns (first_held (chunks_at (held_of P ws) is)))

-- the same, of the message that the take gives
unfoldable pub words_taken : Numberings → Profile → List ℕ → List ℕ → ℕ → ℕ → List ℕ
words_taken N P ws ns point room = take_words P ws room (chosen N P (held_of P ws) (ssns_of P ns) point)

unfoldable pub ssns_taken : Numberings → Profile → List ℕ → List ℕ → ℕ → ℕ → List ℕ
ssns_taken N P ws ns point room = ssns_by N.ssn P ws ns room (chosen N P (held_of P ws) (ssns_of P ns) point)
