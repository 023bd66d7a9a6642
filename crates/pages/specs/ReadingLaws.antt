-- What the loops over a line keep. Assumes nothing.
use Rattle.std.specs.Prelude.{ℕ, ◌+◌, ◌-◌, ◌<◌, ◌≤◌, ◌≡◌, refl, Bool, true, false, List, length, drop, get_or, eqb, ltb, min}
use Rattle.std.proofs.Common.{ap, ◌∙◌, arith}
use Rattle.std.specs.Bool.{beq}
use Rattle.scans.specs.Scan.{pick, left_one, left-none}
use Rattle.scans.specs.Upto.{pick_less, upto-start, upto-one, upto-end}
use Rattle.pages.specs.Reading.{plus_of, seek_from, sought, past_words, rest_of, text_value_in, grown_by, digit_of, Spelling, spelt, sign_put, spelt_at}

-- ---- a search

-- it has come to place i, and none before was sought
pub record Searching (is : Bool) (s : List ℕ) (from c i : ℕ) : Type 0 where
  pub rest : seek_from is c (length s) i (drop i s) ≡ sought is s from c

pub search-start : (is : Bool) (s : List ℕ) (from c : ℕ) → Searching is s from c from
unfolding sought
search-start is s from c = record { rest = refl }

module _ {is : Bool} {s : List ℕ} {from c i : ℕ} (w : Searching is s from c i) where
  pub search-yes : i < length s → beq (eqb (get_or s i 0) c) is ≡ true → i ≡ sought is s from c
  search-yes h t = rw t at (left_one (seek_from is c (length s) i) s i w.rest 0 h)

  pub search_no : i < length s → beq (eqb (get_or s i 0) c) is ≡ false → Searching is s from c (i + 1)
  search_no h t = record { rest = rw t at (left_one (seek_from is c (length s) i) s i w.rest 0 h) }

  pub search-end : length s ≤ i → length s ≡ sought is s from c
  search-end h = left-none (seek_from is c (length s) i) s i w.rest h

-- ---- a number

-- n so far, of the digits before place i
pub record Valuing (hex : Bool) (s : List ℕ) (from n i : ℕ) : Type 0 where
  pub rest : text_value_in hex n (drop i s) ≡ text_value_in hex 0 (drop from s)

module _ {hex : Bool} {s : List ℕ} {from n i : ℕ} (w : Valuing hex s from n i) where
  pub value-more : {m : ℕ} → i < length s → m ≡ grown_by n hex (digit_of (get_or s i 0)) → Valuing hex s from m (i + 1)
  value-more h e = record { rest = rw e (left_one (text_value_in hex n) s i w.rest 0 h) }

  pub value-end : length s ≤ i → n ≡ text_value_in hex 0 (drop from s)
  value-end h = left-none (text_value_in hex n) s i w.rest h

-- what is no digit is passed over
pub grown-none : (n : ℕ) (hex : Bool) {d : ℕ} → d ≡ 16 → n ≡ grown_by n hex d
unfolding grown_by
grown-none n hex e = rw e (go (ltb 4294967295 n))
  where
    go : (t : Bool) → n ≡ pick t n n
    go true = refl
    go false = refl

-- ---- words that are passed

-- i words of k, and what follows them
pub record WordsPassing (s : List ℕ) (k i : ℕ) (left : List ℕ) : Type 0 where
  pub rest : past_words (k - i) left ≡ past_words k s

pub words-start : (s : List ℕ) (k : ℕ) → WordsPassing s k 0 s
words-start s k = record { rest = upto-start (λ (j : ℕ). past_words j s) k refl }

module _ {s : List ℕ} {k i : ℕ} {left : List ℕ} (w : WordsPassing s k i left) where
  pub words-more : i < k → {next : List ℕ} → next ≡ rest_of left → WordsPassing s k (i + 1) next
  words-more h e = record { rest = ap (past_words (k - (i + 1))) e ∙ upto-one (λ (j : ℕ). past_words j left) k i w.rest h }

  -- at most 7
  pub words-end : k ≤ i → (n : ℕ) → k ≡ min n 7 → left ≡ past_words (pick (ltb n 7) n 7) s
  words-end h n e =
      let m : min n 7 ≡ pick (ltb n 7) n 7 = pick_less (λ (c : ℕ). min n 7 ≡ c) n 7 n 7 (λ h. omega arith) (λ h. omega arith) in
      upto-end (λ (j : ℕ). past_words j left) k i w.rest h ∙ ap (λ (j : ℕ). past_words j s) (e ∙ m)

-- ---- bytes that are spelt

-- the buffer and its next half byte, after the signs before place i
pub record Spelled (s first : List ℕ) (at : ℕ) (out : List ℕ) (half i : ℕ) : Type 0 where
  pub rest : spelt (record { out = out; half = half }) (drop i s) ≡ spelt_at s first at

pub spell-start : (s out : List ℕ) (at : ℕ) {half : ℕ} → half ≡ plus_of at at → Spelled s out at out half 0
unfolding spelt_at
spell-start s out at e = record { rest = rw e }

module _ {s first : List ℕ} {at : ℕ} {out : List ℕ} {half i : ℕ} (w : Spelled s first at out half i) where
  pub spell-more : {now : List ℕ} {next : ℕ} → i < length s → record { out = now; half = next } ≡ sign_put (record { out = out; half = half }) (get_or s i 0)
      → Spelled s first at now next (i + 1)
  spell-more h e = record { rest = ap (λ (x : Spelling). spelt x (drop (i + 1) s)) e ∙ left_one (spelt (record { out = out; half = half })) s i w.rest 0 h }

  pub spell-end : length s ≤ i → record { out = out; half = half } ≡ spelt_at s first at
  spell-end h = left-none (spelt (record { out = out; half = half })) s i w.rest h

-- ---- a number that is none of those before n

pub past_one : (n k : ℕ) → n ≤ k → (k ≡ n → ⊥) → n + 1 ≤ k
past_one n k h e = omega arith
