-- The walk goes on over one chunk. Assumes nothing.
use Rattle.std.specs.Prelude.{ℕ, ◌+◌, ◌-◌, ◌<◌, ◌≤◌, ◌≡◌, Bool, true, false, List, length, take, drop}
use Rattle.std.proofs.Common.{sym, ◌∙◌, arith, length-drop}
use Rattle.std.proofs.Math.Path.{ap}
use Rattle.scans.specs.Scan.{pick}
use Rattle.octets.specs.BytesLaws.{part-is}
use Rattle.octets.specs.Walk.{size as size_of}
use Rattle.octets.specs.WalkLaws.{ItemsFolding, folding-one}
use Rattle.steps.specs.declared.chunk.Beside.{Beside}
use Rattle.arriving.specs.declared.verdict.Verdict.{Verdict}
use Rattle.arriving.specs.ChunkVerdict.{unread_at}
use Rattle.arriving.specs.Walked.{beside_at}
use Rattle.rows.specs.declared.stepped.Stepped.{Stepped}
use Rattle.rows.specs.TableRows.{Rowed}
use Rattle.rows.specs.Lending.{Standing, rowed_with, rowed_over}
use Rattle.rows.specs.TableRowsLaws.{rowed-within}
use Rattle.landing.specs.declared.walk.Walk.{Walk}
use Rattle.landing.specs.Verdicts.{verdict_at, count_after, words_noted}
use Rattle.landing.specs.TableWalk.{TableTurn, turn_over, walk_taken, with_count, read_turn, table_turned, in_part, in_whole, turned_in}

-- which way a test goes
pub so : {A : Type 0} {t : Bool} (a b : A) → t ≡ true → a ≡ pick t a b
so a b h = ap (λ (s : Bool). pick s a b) (sym h)

pub not_so : {A : Type 0} {t : Bool} (a b : A) → t ≡ false → b ≡ pick t a b
not_so a b h = ap (λ (s : Bool). pick s a b) (sym h)

-- the room behind the replies so far
pub part_room : (xs : List ℕ) (n : ℕ) → length xs ≡ 1460 → n ≤ 1460 → n + length (take (length xs - n) (drop n xs)) ≡ 1460
part_room xs n l h =
    let k : length (take (length xs - n) (drop n xs)) ≡ length xs - n = ap (λ (y : List ℕ). length y) (part-is xs n) ∙ length-drop n xs in
    omega arith

-- one chunk
module _ (at : ℕ) (b : Beside) (cookie s : List ℕ) (w : Walk) (t : Standing) (verdicts space : List ℕ) where
  abbrev before : TableTurn
  before = turn_over w t verdicts space

  pub table-turn-unread : w.unread ≡ true → {v : Verdict} → v ≡ unread_at at → {n : ℕ} → n ≡ count_after w.count → {vs : List ℕ} → vs ≡ words_noted verdicts w.count v
      → turn_over (with_count w n) t vs space ≡ table_turned at b cookie s before
  unfolding table_turned
  table-turn-unread h {v} e {n} k {vs} m =
      (λ i. turn_over (with_count w (k i)) t ((m ∙ ap (λ (x : Verdict). words_noted verdicts w.count x) e) i) space) ∙ so _ _ h

  module _ {d : Stepped} {u : Standing} {exit : List ℕ} (l : rowed_with d u exit ≡ rowed_over (beside_at at b) cookie s w.head t space) where
    pub table-written-within : w.used + length space ≡ 1460 → w.used + d.written ≤ 1460
    table-written-within h =
        let e : d.written ≡ (rowed_over (beside_at at b) cookie s w.head t space).stepped.written = ap (λ (o : Rowed). o.stepped.written) l in
        omega (arith, e, rowed-within w.head t.held t.next t.places t.next_out t.kept t.area space s (beside_at at b) cookie)

    pub table-turn-read : w.unread ≡ false → {v : Verdict} → v ≡ verdict_at at d → {n : ℕ} → n ≡ count_after w.count → {vs : List ℕ} → vs ≡ words_noted verdicts w.count v
        → {r : Walk} → r ≡ walk_taken w d n → turn_over r u vs exit ≡ table_turned at b cookie s before
    unfolding table_turned
    table-turn-read h {v} e {n} k {vs} m {r} f =
        (λ i. turn_over ((f ∙ (λ j. walk_taken w d (k j))) i) u ((m ∙ ap (λ (x : Verdict). words_noted verdicts w.count x) e) i) exit)
        ∙ ap (λ (o : Rowed). read_turn at before o) l ∙ not_so _ _ h

-- where a chunk begins, seen from what is left
begins : (packet : List ℕ) (at : ℕ) → at < length packet → {t : List ℕ} → t ≡ take (length packet - at) (drop at packet) → at ≡ length packet - length t
begins packet at h {t} e =
    let l : length t ≡ length packet - at = ap (λ (l : List ℕ). length l) (e ∙ part-is packet at) ∙ length-drop at packet in
    omega arith

-- the walk goes on over the chunk at `at`, which is s, of n bytes
module _ (b : Beside) (cookie packet : List ℕ) (u : TableTurn) (at : ℕ) {t : TableTurn}
    (f : ItemsFolding (λ (u : TableTurn) (s : List ℕ). turned_in (length packet - length s) b cookie s u) packet t 12 u at)
    (here : at < length packet) {s : List ℕ} (there : s ≡ take (length packet - at) (drop at packet)) {n : ℕ} (wide : n ≡ size_of s) where
  pub folding-onward : (v : TableTurn) → v ≡ table_turned at b cookie s (in_part u)
      → ItemsFolding (λ (u : TableTurn) (s : List ℕ). turned_in (length packet - length s) b cookie s u) packet t 12 (in_whole u.space u.walk.used v) (at + n)
  unfolding turned_in
  folding-onward v e =
      folding-one f here there
      (ap (λ (x : TableTurn). in_whole u.space u.walk.used x) e ∙ ap (λ (j : ℕ). in_whole u.space u.walk.used (table_turned j b cookie s (in_part u))) (begins packet at here there)) wide
