-- How often a number is held, how many held numbers are below a bound, and what putting a chunk in a place or emptying it does to both.
-- Assumes nothing.
use Rattle.std.specs.Prelude.{ℕ, zero, suc, ◌+◌, ◌-◌, ◌<◌, ◌≤◌, ◌≡◌, refl, Bool, true, false, List, [], ◌∷◌, length, set, get_or, eqb, ltb, Some, None}
use Rattle.std.proofs.Common.{sym, ap, ◌∙◌, add-suc, add-zero, arith, lt-ltb, le-ltb, eq-eqb, ne_eqb, ltb-true, ltb-false}
use Rattle.std.proofs.Math.Decide.{dec_lt, ℕ_discrete}
use mir.Val.{bool_byte as bit}
use Rattle.scans.specs.Scan.{pick, count, find_from}
use Rattle.scans.specs.CountsLaws.{tick-bit, count_most, count_set}
use Rattle.scans.specs.Each.{All, clash}
use Rattle.holding.specs.declared.held.Held.{Held}
use Rattle.line.specs.Runs.{copies}
use Rattle.holding.specs.Held.{no_held, is_held_free, holds, holds-is}

pub bit-lt : (a b : ℕ) → bit (ltb a b) ≡ 1 → a < b
bit-lt a b e = go (ltb a b) refl
  where
    go : (t : Bool) → ltb a b ≡ t → a < b
    go true q = ltb-true a b q
    go false q = absurd (omega (arith, sym (ap bit q) ∙ e))

pub bit-ge : (a b : ℕ) → bit (ltb a b) ≡ 0 → b ≤ a
bit-ge a b e = go (ltb a b) refl
  where
    go : (t : Bool) → ltb a b ≡ t → b ≤ a
    go true q = absurd (omega (arith, sym (ap bit q) ∙ e))
    go false q = ltb-false a b q

-- a number below a is held here
abbrev pub is_below : ℕ → Held → Bool
is_below a x = pick x.used (ltb x.tsn.0 a) false

-- how many places hold a number below a
unfoldable pub below : List Held → ℕ → ℕ
below hs a = count (is_below a) hs

pub copies-nil : (n : ℕ) → copies [] n ≡ 0
unfolding copies
copies-nil n = refl

pub copies-cons : (x : Held) (hs : List Held) (n : ℕ) → copies (x ∷ hs) n ≡ bit (holds n x) + copies hs n
unfolding copies
copies-cons x hs n = tick-bit (holds n x) (count (holds n) hs)

below-cons : (x : Held) (hs : List Held) (a : ℕ) → below (x ∷ hs) a ≡ bit (is_below a x) + below hs a
unfolding below
below-cons x hs a = tick-bit (is_below a x) (count (is_below a) hs)

pub holds-none : (n : ℕ) → holds n no_held ≡ false
unfolding holds
holds-none n = refl

-- ---- a bound moved up

one_up : (x : Held) (a : ℕ) → bit (is_below (suc a) x) ≡ bit (is_below a x) + bit (holds a x)
unfolding holds
one_up x a = go x.used
  where
    t : ℕ
    t = x.tsn.0

    cmp : Dec (t < a) → Dec (t ≡ a) → bit (ltb t (suc a)) ≡ bit (ltb t a) + bit (eqb t a)
    cmp (yes l) q = rw (lt-ltb t (suc a) (omega arith), lt-ltb t a l, ne_eqb t a (λ e. omega arith))
    cmp (no l) (yes q) = rw (lt-ltb t (suc a) (omega arith), le-ltb t a (omega arith), eq-eqb t a q)
    cmp (no l) (no q) =
        let g : a < t = omega arith in
        rw (le-ltb t (suc a) (omega arith), le-ltb t a (omega arith), ne_eqb t a q)

    go : (u : Bool) → bit (pick u (ltb t (suc a)) false) ≡ bit (pick u (ltb t a) false) + bit (pick u (eqb t a) false)
    go true = cmp (dec_lt t a) (ℕ_discrete t a)
    go false = refl

pub below_suc : (hs : List Held) (a : ℕ) → below hs (suc a) ≡ below hs a + copies hs a
unfolding below copies
below_suc [] a = refl
below_suc (x ∷ hs) a =
    omega (arith, below-cons x hs (suc a), below-cons x hs a, copies-cons x hs a, one_up x a, below_suc hs a)

module _ (hs : List Held) (a : ℕ) where
  -- every number of a span is held
  pub below-run : (k : ℕ) → ((j : ℕ) → a ≤ j → j < a + k → 1 ≤ copies hs j) → below hs a + k ≤ below hs (a + k)
  below-run zero f = rw (add-zero a) (omega arith)
  below-run (suc k) f =
      rw (add-suc a k)
      (omega (arith, below_suc hs (a + k), below-run k (λ j l m. f j l (omega arith)), f (a + k) (omega arith) (omega arith)))

  -- none is held twice
  pub below_span : (k : ℕ) → ((j : ℕ) → copies hs j ≤ 1) → below hs (a + k) ≤ below hs a + k
  below_span zero f = rw (add-zero a) (omega arith)
  below_span (suc k) f = rw (add-suc a k) (omega (arith, below_suc hs (a + k), below_span k f, f (a + k)))

  below-grows : (k : ℕ) → below hs a ≤ below hs (a + k)
  below-grows zero = rw (add-zero a) (omega arith)
  below-grows (suc k) = rw (add-suc a k) (omega (arith, below_suc hs (a + k), below-grows k))

pub below-mono : (hs : List Held) (a b : ℕ) → a ≤ b → below hs a ≤ below hs b
below-mono hs a b l = let e : a + (b - a) ≡ b = omega arith in rw e at (below-grows hs a (b - a))

pub below-le : (hs : List Held) (a : ℕ) → below hs a ≤ length hs
unfolding below
below-le hs a = count_most (is_below a) hs

-- ---- places

pub place-of : (hs : List Held) (n : ℕ) → 1 ≤ copies hs n → (i : ℕ) × (i < length hs) × (holds n (get_or hs i no_held) ≡ true)
unfolding copies
place-of [] n h = absurd (omega arith)
place-of (x ∷ hs) n h = go (holds n x) refl (place-of hs n)
  where
    go : (t : Bool) → holds n x ≡ t → (1 ≤ copies hs n → (i : ℕ) × (i < length hs) × (holds n (get_or hs i no_held) ≡ true))
        → (i : ℕ) × (i < suc (length hs)) × (holds n (get_or (x ∷ hs) i no_held) ≡ true)
    go true q ih = (0, omega arith, q)
    go false q ih = let w = ih (rw q at h) in (suc w.0, omega arith, w.2)

pub copies_at : (hs : List Held) (i n : ℕ) → holds n (get_or hs i no_held) ≡ true → 1 ≤ copies hs n
copies_at [] i n e = clash (sym (holds-none n) ∙ e)
copies_at (x ∷ hs) zero n e = rw (copies-cons x hs n, e) (omega arith)
copies_at (x ∷ hs) (suc i) n e = omega (arith, copies-cons x hs n, copies_at hs i n e)

-- what holds of each number held holds in each place
pub all_held : {Q : ℕ → Type 0} (hs : List Held) → ((n : ℕ) → 1 ≤ copies hs n → Q n) → All (λ (x : Held). x.used ≡ true → Q x.tsn.0) hs
all_held [] f = tt
all_held {Q} (x ∷ hs) f = (
  λ u. f x.tsn.0 (copies_at (x ∷ hs) 0 x.tsn.0 (holds-is x.tsn.0 x u refl)),
  all_held {Q = Q} hs (λ n l. f n (omega (arith, copies-cons x hs n))),
)

-- nothing is free, and nothing from a on is held: the places are as many as the numbers below a
pub full-below : (hs : List Held) (i a : ℕ) → find_from is_held_free i hs ≡ None → ((n : ℕ) → a ≤ n → copies hs n ≡ 0) → below hs a ≡ length hs
unfolding below
full-below [] i a e f = refl
full-below (x ∷ hs) i a e f = go x.used refl (full-below hs (i + 1) a)
  where
    go : (u : Bool) → x.used ≡ u
        → (find_from is_held_free (i + 1) hs ≡ None → ((n : ℕ) → a ≤ n → copies hs n ≡ 0) → below hs a ≡ length hs)
        → below (x ∷ hs) a ≡ suc (length hs)
    go false q ih =
        let c : Some i ≡ None = rw q at e in
        let z : ◌≡◌ {A = ℕ} 0 1 = cc in
        absurd (omega arith)
    go true q ih = less (dec_lt x.tsn.0 a)
      where
        less : Dec (x.tsn.0 < a) → below (x ∷ hs) a ≡ suc (length hs)
        less (yes l) =
            let b : is_below a x ≡ true = rw q (lt-ltb x.tsn.0 a l) in
            rw (below-cons x hs a, b) (omega (arith, ih (rw q at e) (λ n m. omega (arith, copies-cons x hs n, f n m))))
        less (no l) =
            absurd (omega (arith, f x.tsn.0 (omega arith), copies_at (x ∷ hs) 0 x.tsn.0 (holds-is x.tsn.0 x q refl)))

-- ---- one place changed

pub copies-set : (hs : List Held) (i : ℕ) (x : Held) (n : ℕ) → i < length hs
    → copies (set hs i x) n + bit (holds n (get_or hs i no_held)) ≡ copies hs n + bit (holds n x)
unfolding copies
copies-set hs i x n l = count_set (holds n) no_held hs i x l

-- emptying places takes from no count what does not pass
pub count-empty : (p : Held → Bool) → p no_held ≡ false → (hs : List Held) (i : ℕ) → count p (set hs i no_held) ≤ count p hs
count-empty p z [] i = omega arith
count-empty p z (y ∷ hs) zero = rw z (omega (arith, tick-bit (p y) (count p hs)))
count-empty p z (y ∷ hs) (suc i) =
    omega (arith, tick-bit (p y) (count p hs), tick-bit (p y) (count p (set hs i no_held)), count-empty p z hs i)
