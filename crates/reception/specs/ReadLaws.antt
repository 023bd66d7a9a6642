-- The loops over the held chunks, by the place that was read from its words. Assumes nothing.
use Rattle.std.specs.Prelude.{ℕ, zero, suc, ◌+◌, ◌-◌, ◌%◌, ◌⊎◌, ◌||◌, ◌<◌, ◌≤◌, ◌≡◌, refl, Bool, true, false, not, List, [], ◌∷◌, length, get_or, set, take, drop, replicate, ltb, Some, None}
use Rattle.std.proofs.Common.{sym, ap, ◌∙◌, inl, inr, arith, lt-ltb, le-ltb, get_or-drop}
use Rattle.std.proofs.Math.Decide.{dec_lt}
use mir.Val.{bool_byte}
use Rattle.numbers.specs.declared.keeping.Keeping.{Keeping}
use Rattle.numbers.specs.Numbering.{Numbering}
use Rattle.numbers.specs.Profile.{Profile}
use Rattle.numbers.specs.Come.{highest}
use Rattle.numbers.specs.ComeLaws.{highest-below, highest-least}
use Rattle.scans.specs.Scan.{pick, any, either, Counting, count-start, count_no, count-end, Seeking, seek-no, seek-end}
use Rattle.scans.specs.Each.{clash, neither}
use Rattle.holding.specs.declared.held.Held.{Held}
use Rattle.holding.specs.Held.{no_held, holds}
use Rattle.delivery.specs.Receiving.{is_low}
use Rattle.delivery.specs.LowLaws.{low_by_flag, low_free}
use Rattle.delivery.specs.Contradiction.{contradicts_next}
use Rattle.delivery.specs.LookLaws.{Looking, look-used, look-free}
use Rattle.delivery.specs.ReceivingBounds.{is_twice, is_unfit}
use Rattle.delivery.specs.ReceivingBoundsLaws.{low_weight, weight-fit, unfit-free}
use Rattle.taking.specs.TakeWords.{free_for, next_used}
use Rattle.taking.specs.FreeLaws.{over-free, to_used, to_end}
use Rattle.reception.specs.NoteLaws.{Checking, check-start, check-free, check-new, check-held, check-same, check-noted, check-end}

-- a flag as it is
abbrev pub itself : Bool → Bool
itself flag = flag

pub not_set : (b : Bool) → not b ≡ true → b ≡ false
not_set true e = sym e
not_set false e = refl

-- where none is set, no one that is read is
pub none-set : (flags : List Bool) → any itself flags ≡ false → (j : ℕ) → get_or flags j false ≡ false
none-set [] e zero = refl
none-set [] e (suc j) = refl
none-set (flag ∷ flags) e zero = (neither flag (any itself flags) e).0
none-set (flag ∷ flags) e (suc j) = none-set flags (neither flag (any itself flags) e).1 j

-- a held chunk whose flag is not set is low
pub low-unset : (P : Profile) (d : ℕ) {flag : Bool} → flag ≡ false → true ≡ low_by_flag P d flag
low-unset P d e = rw e (go (ltb d 1) (ltb P.places d))
  where
    go : (a b : Bool) → true ≡ pick a true (pick b true true)
    go true b = refl
    go false true = refl
    go false false = refl

-- a used place, as it was read, in the pass that an arrival makes
module _ {T : Numbering} {P : Profile} {k : Keeping} {hs : List Held} {h : Held} {i a : ℕ} {b d : Bool} (w : Looking T P k hs h i a b d)
    (l : i < P.places) (u : (get_or hs i no_held).used ≡ true) (g : Held) (e : g ≡ get_or hs i no_held) where
  pub read-used : {y : Bool} → y ≡ is_low T k g → {x : Bool} → x ≡ either b (holds h.tsn.0 g)
      → {z : Bool} → z ≡ either d (either (contradicts_next T g h) (contradicts_next T h g)) → Looking T P k hs h (i + 1) (a + bool_byte y) x z
  read-used p q r =
      look-used w l u (p ∙ ap (is_low T k) e) (q ∙ ap (λ (m : Held). either b (holds h.tsn.0 m)) e)
      (r ∙ ap (λ (m : Held). either d (either (contradicts_next T m h) (contradicts_next T h m))) e)

-- the pass, at the next used place, and where there is none
module _ {T : Numbering} {P : Profile} {k : Keeping} {hs : List Held} {h : Held} {a from : ℕ} {b d : Bool} (q : length hs ≡ P.places) (w : Looking T P k hs h from a b d) where
  pub look-next : {i : ℕ} → next_used hs from ≡ Some i → Looking T P k hs h i a b d
  look-next {i} e = to_used (λ (x : ℕ). Looking T P k hs h x a b d) hs from i e (λ x l u v. look-free v (omega (arith, q)) u) w

  pub look-last : from ≤ P.places → next_used hs from ≡ None → Looking T P k hs h P.places a b d
  look-last l e = rw q at (to_end (λ (x : ℕ). Looking T P k hs h x a b d) hs from (omega (arith, q)) e (λ x l u v. look-free v (omega (arith, q)) u) w)

-- eight free places, side by side
module _ {T : Numbering} {P : Profile} {k : Keeping} {hs : List Held} where
  pub look-eight : {h : Held} {i a : ℕ} {b d : Bool} → Looking T P k hs h i a b d → i + 8 ≤ P.places → free_for hs i 8 ≡ true
      → Looking T P k hs h (i + 8) a b d
  look-eight {h} {i} {a} {b} {d} w l e = over-free (λ (x : ℕ). Looking T P k hs h x a b d) hs 8 i e (λ x y u v o. look-free o (omega arith) v) w

-- the same, in the pass that looks for a number held twice
module _ {hs : List Held} {m : ℕ} {seen : List Bool} {i : ℕ} (w : Checking hs m seen i) (h : i < m)
    (u : (get_or hs i no_held).used ≡ true) (g : Held) (e : g ≡ get_or hs i no_held) {d : ℕ} (s : d ≡ g.tsn.0 % 128) where
  there : d ≡ (get_or hs i no_held).tsn.0 % 128
  there = s ∙ ap (λ (x : Held). x.tsn.0 % 128) e

  pub read-new : d < 128 → get_or seen d false ≡ false → Checking hs m (set seen d true) (i + 1)
  read-new l q = check-new w h u there l q

  module _ {y : Bool} (b : y ≡ any (holds g.tsn.0) (take i hs)) where
    before : y ≡ any (holds (get_or hs i no_held).tsn.0) (take i hs)
    before = b ∙ ap (λ (x : Held). any (holds x.tsn.0) (take i hs)) e

    pub read_held : y ≡ true → true ≡ is_twice hs
    read_held q = check-held w h u there before q

    pub read_same : get_or seen d false ≡ true → y ≡ false → Checking hs m seen (i + 1)
    read_same t q = check-same w h u there before t q

-- the slot is noted, where it was or was not
module _ {hs : List Held} {m : ℕ} {seen : List Bool} {i : ℕ} (w : Checking hs m seen i) (h : i < m) (u : (get_or hs i no_held).used ≡ true)
    (g : Held) (e : g ≡ get_or hs i no_held) {d : ℕ} (s : d ≡ g.tsn.0 % 128) (l : d < 128) where
  pub read_noted : (get_or seen d false ≡ false) ⊎ (false ≡ any (holds g.tsn.0) (take i hs)) → Checking hs m (set seen d true) (i + 1)
  read_noted c = go (get_or seen d false) refl c
    where
      go : (t : Bool) → get_or seen d false ≡ t → (get_or seen d false ≡ false) ⊎ (false ≡ any (holds g.tsn.0) (take i hs)) → Checking hs m (set seen d true) (i + 1)
      go false q c = read-new w h u g e s l q
      go true q (inl r) = clash (sym r ∙ q)
      go true q (inr r) = check-noted (read_same w h u g e s r q refl) l

-- the answer of a test, turned round
pub not-pick : (b : Bool) → not b ≡ pick b false true
not-pick true = refl
not-pick false = refl

-- ---- the pass that weighs them

-- past i of m places
abbrev pub Weighing : Numbering → Profile → Keeping → List Held → ℕ → List Bool → ℕ → ℕ → Type 0
Weighing T P k hs m seen low i = Checking hs m seen i × Seeking (is_unfit P) hs m i × Counting (is_low T k) hs m i low

module _ (T : Numbering) (P : Profile) (k : Keeping) (hs : List Held) where
  pub weigh-start : (m : ℕ) → length hs ≡ m → Weighing T P k hs m (replicate 128 false) 0 0
  weigh-start m q = (check-start hs m q, record { long = q; rest = refl }, count-start (is_low T k) hs m q)

  -- at the next used place
  pub weigh-used : (m : ℕ) (seen : List Bool) (low from i : ℕ) → length hs ≡ m → next_used hs from ≡ Some i → Weighing T P k hs m seen low from → Weighing T P k hs m seen low i
  weigh-used m seen low from i q e w = to_used (λ (x : ℕ). Weighing T P k hs m seen low x) hs from i e (free q) w
    where
      free : length hs ≡ m → (x : ℕ) → x < length hs → (get_or hs x no_held).used ≡ false → Weighing T P k hs m seen low x → Weighing T P k hs m seen low (x + 1)
      free q x l u v =
          let y : x < m = omega (arith, q) in
          (check-free v.0 y u, seek-no v.1 no_held y (unfit-free P (get_or hs x no_held) u), count_no v.2 no_held y (low_free T k (get_or hs x no_held) u))

  -- and where there is none
  pub weigh-end : (m : ℕ) (seen : List Bool) (low from : ℕ) → length hs ≡ m → from ≤ m → next_used hs from ≡ None → Weighing T P k hs m seen low from → (Some low ≡ low_weight T P k hs) × (low ≤ m)
  weigh-end m seen low from q l e w =
      let v = to_end (λ (x : ℕ). Weighing T P k hs m seen low x) hs from (omega (arith, q)) e (free q) w in
      let y : m ≤ length hs = omega (arith, q) in
      (weight-fit T P k hs (seek-end v.1 y) (check-end v.0 y) (count-end v.2 y), omega (arith, v.2.below, q))
    where
      free : length hs ≡ m → (x : ℕ) → x < length hs → (get_or hs x no_held).used ≡ false → Weighing T P k hs m seen low x → Weighing T P k hs m seen low (x + 1)
      free q x l u v =
          let y : x < m = omega (arith, q) in
          (check-free v.0 y u, seek-no v.1 no_held y (unfit-free P (get_or hs x no_held) u), count_no v.2 no_held y (low_free T k (get_or hs x no_held) u))

-- free places, side by side
module _ (T : Numbering) (P : Profile) (k : Keeping) {hs : List Held} where
  pub weigh-free : {m : ℕ} {seen : List Bool} {i low : ℕ} (j : ℕ)
      → Checking hs m seen i × Seeking (is_unfit P) hs m i × Counting (is_low T k) hs m i low → i + j ≤ m → free_for hs i j ≡ true
      → Checking hs m seen (i + j) × Seeking (is_unfit P) hs m (i + j) × Counting (is_low T k) hs m (i + j) low
  weigh-free {m} {seen} {i} {low} j w l e =
      over-free (λ (x : ℕ). Checking hs m seen x × Seeking (is_unfit P) hs m x × Counting (is_low T k) hs m x low) hs j i e
      (λ x a b u v. (check-free v.0 (omega arith) u, seek-no v.1 no_held (omega arith) (unfit-free P (get_or hs x no_held) u), count_no v.2 no_held (omega arith) (low_free T k (get_or hs x no_held) u))) w

  -- those from the first on
  pub weigh-first : {m : ℕ} (j : ℕ) → length hs ≡ m → j ≤ m → free_for hs 0 j ≡ true
      → Checking hs m (replicate 128 false) j × Seeking (is_unfit P) hs m j × Counting (is_low T k) hs m j 0
  weigh-first {m} j q l e =
      let z : 0 + j ≡ j = omega arith in
      rw z at (weigh-free j (check-start hs m q, record { long = q; rest = refl }, count-start (is_low T k) hs m q) (omega arith) e)

-- a flag is set from the n-th on where the highest lies behind it
none-clear : (flags : List Bool) → ((j : ℕ) → get_or flags j false ≡ false) → any itself flags ≡ false
none-clear [] f = refl
none-clear (true ∷ flags) f = clash (sym (f 0))
none-clear (false ∷ flags) f = none-clear flags (λ j. f (suc j))

pub any-highest : (flags : List Bool) (n : ℕ) → any itself (drop n flags) ≡ ltb n (highest flags)
any-highest flags n = go (dec_lt n (highest flags))
  where
    some : (t : Bool) → any itself (drop n flags) ≡ t → n < highest flags → t ≡ true
    some true e l = refl
    some false e l = absurd (omega (arith, highest-least flags n (λ j m. clear j m)))
      where
        clear : (j : ℕ) → n ≤ j → get_or flags j false ≡ false
        clear j m =
            let z : n + (j - n) ≡ j = omega arith in
            rw z at (sym (get_or-drop n flags (j - n) false) ∙ none-set (drop n flags) e (j - n))

    go : Dec (n < highest flags) → any itself (drop n flags) ≡ ltb n (highest flags)
    go (yes l) = some (any itself (drop n flags)) refl l ∙ sym (lt-ltb n (highest flags) l)
    go (no l) = none-clear (drop n flags) (λ j. get_or-drop n flags j false ∙ highest-below flags (n + j) (omega arith)) ∙ sym (le-ltb n (highest flags) (omega arith))

-- the room that so many leave, passed
pub over-room : (n low h : ℕ) → low ≤ n → ltb (n - low) h ≡ ltb n (h + low)
over-room n low h l = go (dec_lt (n - low) h)
  where
    go : Dec (n - low < h) → ltb (n - low) h ≡ ltb n (h + low)
    go (yes m) = lt-ltb (n - low) h m ∙ sym (lt-ltb n (h + low) (omega arith))
    go (no m) = le-ltb (n - low) h (omega arith) ∙ sym (le-ltb n (h + low) (omega arith))
