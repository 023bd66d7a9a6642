-- A take that is refused leaves the words of its tables. Assumes nothing.
use Rattle.std.specs.Prelude.{ℕ, ◌<◌, ◌≡◌, refl, Bool, true, false, List, ltb}
use Rattle.std.proofs.Common.{arith}
use Rattle.scans.specs.Scan.{pick}
use Rattle.numbers.specs.Numbering.{Numberings}
use Rattle.numbers.specs.Profile.{Profile}
use Rattle.holding.specs.declared.taking.Took.{Took}
use Rattle.holding.specs.Message.{Choice, none, one, chunks_at, chosen}
use Rattle.holding.specs.Taking.{length_of, first_held, take_number, took_by, took}
use Rattle.tables.specs.HeldWords.{held_of}
use Rattle.tables.specs.Ssns.{ssns_of}
use Rattle.taking.specs.TakeWords.{words_emptied, ssns_advanced, take_words, ssns_by, words_taken, ssns_taken}

pub words_left : (N : Numberings) (P : Profile) (ws ns : List ℕ) (point room : ℕ) → 0 < take_number (took N P (held_of P ws) (ssns_of P ns) point room).answer
    → (words_taken N P ws ns point room ≡ ws) × (ssns_taken N P ws ns point room ≡ ns)
unfolding took words_taken ssns_taken
words_left N P ws ns point room h = go (chosen N P (held_of P ws) (ssns_of P ns) point) h
  where
    go : (c : Choice) → 0 < take_number (took_by N.ssn (held_of P ws) (ssns_of P ns) room c).answer → (take_words P ws room c ≡ ws) × (ssns_by N.ssn P ws ns room c ≡ ns)
    go none h = (refl, refl)
    go (one k is) h = side (ltb room (length_of (held_of P ws) is)) _ _ refl h
      where
        side : (t : Bool) (x y : Took) → take_number y.answer ≡ 0 → 0 < take_number (pick t x y).answer
            → (pick t ws (words_emptied P ws is) ≡ ws) × (pick t ns (ssns_advanced N.ssn P ns (first_held (chunks_at (held_of P ws) is))) ≡ ns)
        side true x y z h = (refl, refl)
        side false x y z h = absurd (omega arith)
