-- The verdicts of a packet's chunks as words that the host lends: four for each chunk, in the packet's order.
use Rattle.std.specs.Prelude.{ℕ, zero, suc, ◌+◌, ◌*◌, ◌/◌, ◌%◌, List, [], ◌∷◌, ◌++◌, ltb, get_or, drop}
use Rattle.scans.specs.Scan.{pick}
use Rattle.octets.specs.Bytes.{laid}
use Rattle.numbers.specs.Profile.{most_chunks, rail}
use Rattle.arriving.specs.declared.verdict.Verdict.{Verdict}
use Rattle.arriving.specs.ChunkVerdict.{codes_at}
use Rattle.rows.specs.declared.stepped.Stepped.{Stepped}

-- where the chunk begins, which is less than 65,536 in any packet; the value; fate and number; cause and event
abbrev pub verdict_words : Verdict → List ℕ
verdict_words v = (v.at % 65536) ∷ v.value ∷ (v.fate * 256 + v.number) ∷ (v.cause * 256 + v.event) ∷ []

-- those of all chunks, one behind the other
abbrev pub all_verdict_words : List Verdict → List ℕ
all_verdict_words [] = []
all_verdict_words (v ∷ vs) = verdict_words v ++ all_verdict_words vs

-- the verdict that four words tell, and so many of them one behind the other
abbrev pub verdict_in : List ℕ → Verdict
verdict_in ws = record {
  at = get_or ws 0 0;
  value = get_or ws 1 0;
  fate = get_or ws 2 0 / 256;
  number = get_or ws 2 0 % 256;
  cause = get_or ws 3 0 / 256;
  event = get_or ws 3 0 % 256;
}

abbrev pub verdicts_of : ℕ → List ℕ → List Verdict
verdicts_of zero ws = []
verdicts_of (suc n) ws = verdict_in ws ∷ verdicts_of n (drop 4 ws)

-- the verdict of what became of the chunk at `at`
abbrev pub verdict_at : ℕ → Stepped → Verdict
verdict_at at d = codes_at at d.fate d.named d.event

-- one verdict more behind so many: how many there are then, and the words; a packet of at most 1,472 bytes has no more chunks than there is room for
unfoldable pub count_after : ℕ → ℕ
count_after n = pick (ltb n (most_chunks rail)) (n + 1) n

unfoldable pub words_noted : List ℕ → ℕ → Verdict → List ℕ
words_noted ws n v = pick (ltb n (most_chunks rail)) (laid ws (4 * n) (verdict_words v)) ws
