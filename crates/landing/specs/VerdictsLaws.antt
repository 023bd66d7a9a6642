-- The words of the verdicts: one more stands behind those before, and all behind it stays as it was lent. Assumes nothing.
use Rattle.std.specs.Prelude.{ℕ, suc, ◌+◌, ◌*◌, ◌/◌, ◌%◌, ◌<◌, ◌≤◌, ◌≡◌, Bool, List, [], ◌∷◌, ◌++◌, length, take, drop, set}
use Rattle.std.proofs.Math.Path.{refl}
use Rattle.std.proofs.Common.{sym, ap, ◌∙◌, arith, append_assoc, length-append, length-take-le, take-suc-set, drop-drop}
use Rattle.std.proofs.Math.Bool.{true, false}
use borrow.Author.Tests.{ltb-true}
use Rattle.std.proofs.Math.Dec.{ltb}
use Rattle.std.proofs.Math.ListN.{length-set}
use Rattle.std.proofs.Math.Seq.{take-append_seam}
use Rattle.scans.specs.Scan.{pick}
use Rattle.scans.specs.Each.{All}
use Rattle.octets.specs.Bytes.{laid}
use Rattle.octets.specs.BytesLaws.{laid-is, length-laid, drop_past}
use Rattle.arriving.specs.declared.verdict.Verdict.{Verdict}
use Rattle.landing.specs.Verdicts.{verdict_words, all_verdict_words, verdict_in, verdicts_of, count_after, words_noted}

-- what is copied into the k places from `at` on is laid there
pub copied-laid : (ws : List ℕ) (at k : ℕ) (vs : List ℕ) → k ≡ length vs → at + length vs ≤ length ws → take at ws ++ (vs ++ drop k (drop at ws)) ≡ laid ws at vs
copied-laid ws at k vs e h =
    sym (append_assoc (take at ws) vs (drop k (drop at ws))) ∙ ap (λ (l : List ℕ). take at ws ++ vs ++ l) (drop-drop k at ws ∙ ap (λ (n : ℕ). drop (at + n) ws) e) ∙ sym (laid-is vs ws at h)

words_append : (us vs : List Verdict) → all_verdict_words (us ++ vs) ≡ all_verdict_words us ++ all_verdict_words vs
words_append [] vs = refl
words_append (u ∷ us) vs = ap (λ (l : List ℕ). verdict_words u ++ l) (words_append us vs)

-- a verdict within its words
pub record VerdictSmall (v : Verdict) : Type 0 where
  pub at : v.at < 65536
  pub number : v.number < 256
  pub event : v.event < 256

-- is what they tell
word_back : (v : Verdict) → VerdictSmall v → verdict_in (verdict_words v) ≡ v
word_back v s =
    let a : v.at % 65536 ≡ v.at = omega (arith, s.at) in
    let f : (v.fate * 256 + v.number) / 256 ≡ v.fate = omega (arith, s.number) in
    let n : (v.fate * 256 + v.number) % 256 ≡ v.number = omega (arith, s.number) in
    let c : (v.cause * 256 + v.event) / 256 ≡ v.cause = omega (arith, s.event) in
    let e : (v.cause * 256 + v.event) % 256 ≡ v.event = omega (arith, s.event) in
    λ i. record { at = a i; value = v.value; fate = f i; number = n i; cause = c i; event = e i }

pub words_back : (vs : List Verdict) (rest : List ℕ) → All VerdictSmall vs → verdicts_of (length vs) (all_verdict_words vs ++ rest) ≡ vs
words_back [] rest s = refl
words_back (v ∷ vs) rest s = λ i. word_back v s.0 i ∷ words_back vs rest s.1 i

-- one verdict more in the list
abbrev pub verdicts_noted : List Verdict → ℕ → Verdict → List Verdict
verdicts_noted vs n v = pick (ltb n 365) (set vs n v) vs

-- the words tell the first n of the verdicts vs, and behind them stands what was lent
pub record Telling (lent ws : List ℕ) (n : ℕ) (vs : List Verdict) : Type 0 where
  pub long : length ws ≡ 1460
  pub room : length vs ≡ 365
  pub few : n ≤ 365
  pub told : take (4 * n) ws ≡ all_verdict_words (take n vs)
  pub rest : drop (4 * n) ws ≡ drop (4 * n) lent

pub telling-none : (ws : List ℕ) (vs : List Verdict) → length ws ≡ 1460 → length vs ≡ 365 → Telling ws ws 0 vs
telling-none ws vs l r = record { long = l; room = r; few = omega arith; told = refl; rest = refl }

module _ {lent ws : List ℕ} {n : ℕ} {vs : List Verdict} (t : Telling lent ws n vs) (v : Verdict) where
  module _ (h : n < 365) where
    within : 4 * n + 4 ≤ length ws
    within = omega (arith, t.long)

    told_more : take (4 * (n + 1)) (laid ws (4 * n) (verdict_words v)) ≡ all_verdict_words (take (n + 1) (set vs n v))
    told_more =
        let k : 4 * (n + 1) ≡ length (take (4 * n) ws ++ verdict_words v) =
        omega (arith, length-append (take (4 * n) ws) (verdict_words v), length-take-le (4 * n) ws (omega (arith, within))) in
        let e : suc n ≡ n + 1 = omega arith in
        (λ i. take (k i) (laid-is (verdict_words v) ws (4 * n) within i)) ∙ take-append_seam (take (4 * n) ws ++ verdict_words v) (drop (4 * n + 4) ws)
        ∙ ap (λ (l : List ℕ). l ++ verdict_words v) t.told ∙ sym (words_append (take n vs) (v ∷ []))
        ∙ ap (λ (us : List Verdict). all_verdict_words us) (sym (take-suc-set vs n v (omega (arith, t.room))) ∙ ap (λ (m : ℕ). take m (set vs n v)) e)

    rest_more : drop (4 * (n + 1)) (laid ws (4 * n) (verdict_words v)) ≡ drop (4 * (n + 1)) lent
    rest_more =
        let e : 4 * (n + 1) ≡ 4 * n + 4 = omega arith in
        drop_past (verdict_words v) ws (4 * n) (4 * (n + 1)) (omega arith) ∙ ap (λ (m : ℕ). drop m ws) e ∙ sym (drop-drop 4 (4 * n) ws)
        ∙ ap (λ (l : List ℕ). drop 4 l) t.rest ∙ drop-drop 4 (4 * n) lent ∙ ap (λ (m : ℕ). drop m lent) (sym e)

  pub telling-one : Telling lent (words_noted ws n v) (count_after n) (verdicts_noted vs n v)
  unfolding words_noted count_after
  telling-one = go (ltb n 365) refl
    where
      go : (x : Bool) → ltb n 365 ≡ x → Telling lent (pick x (laid ws (4 * n) (verdict_words v)) ws) (pick x (n + 1) n) (pick x (set vs n v) vs)
      go true e =
          let h : n < 365 = ltb-true n 365 e in
          record {
            long = length-laid ws (4 * n) (verdict_words v) ∙ t.long;
            room = length-set vs n v ∙ t.room;
            few = omega (arith, h);
            told = told_more h;
            rest = rest_more h;
          }
      go false e = t
