-- Counting: of distinct numbers, no more have come than there are offsets come. So among n places, where the highest offset come and the numbers
-- that have not come are n at most together, one that is to come at an offset within the rest finds a free place; and they stay so together.
-- Assumes nothing.
use Rattle.std.specs.Prelude.{◌≡◌, ℕ, zero, suc, ◌+◌, ◌-◌, ◌<◌, ◌≤◌, Bool, true, false, not, ◌⊎◌, List, [], ◌∷◌, length, get_or, set, replicate, ◌==◌, ◌≢◌, nat_eq, slice_index_or, slice_set, refl}
use Rattle.std.proofs.Common.{zero-le, suc-le-suc, sym, ap, ◌∙◌, inl, inr, ⊎_elim, le_of_suc-le-suc, arith, lt-ltb, le-ltb, eq-eqb, ne_eqb}
use Rattle.std.proofs.Math.Decide.{dec_lt, ℕ_discrete}
use Rattle.std.proofs.lemmas.Bool.{not-true}
use Rattle.std.proofs.lemmas.List.{get_or-replicate}
use Rattle.scans.specs.Scan.{pick, tick, count, any}
use Rattle.scans.specs.CountsLaws.{tick-bit, none-count, count_none}
use Rattle.scans.specs.Each.{All, Scans, counts, asks, count-alike, clash, tick-tick}
use Rattle.numbers.specs.declared.keeping.Keeping.{Keeping}
use Rattle.numbers.specs.Numbering.{Numbering}
use Rattle.numbers.specs.Profile.{Profile}
use Rattle.numbers.specs.ComeLaws.{Below, highest-below}
use Rattle.numbers.specs.Keeping.{offset_of, is_come, marked_come, highest_of}
use Rattle.numbers.specs.ReachLaws.{On}
use Rattle.numbers.specs.KeepingLaws.{Comes, flag_of, flag-inv, other-flag, come-below, same_ahead, moved_by, come-after, highest-after}

-- ---- the numbers of what is used

module _ {A : Type 0} (used : A → Bool) (number : A → ℕ) where
  -- the numbers of those that are used
  abbrev pub numbers_of : List A → List ℕ
  numbers_of [] = []
  numbers_of (x ∷ xs) = pick (used x) (number x ∷ numbers_of xs) (numbers_of xs)

  -- what goes by the answers, and passes over a no, is told by the numbers alone
  scan-numbers : {R : Type 0} {none : R} {step : Bool → R → R} (q : ℕ → Bool) {S : List A → R} {T : List ℕ → R}
      → Scans (λ (x : A). pick (used x) (q (number x)) false) none (λ i. step) (λ i. S) → Scans q none (λ i. step) (λ i. T) → ((r : R) → step false r ≡ r)
      → (xs : List A) → S xs ≡ T (numbers_of xs)
  scan-numbers q a b over [] = a.end 0 ∙ sym (b.end 0)
  scan-numbers {R} {none} {step} q {S} {T} a b over (x ∷ xs) = a.on 0 x xs ∙ go (used x) (scan-numbers q a b over xs)
    where
      go : (u : Bool) → S xs ≡ T (numbers_of xs) → step (pick u (q (number x)) false) (S xs) ≡ T (pick u (number x ∷ numbers_of xs) (numbers_of xs))
      go true e = ap (step (q (number x))) e ∙ sym (b.on 0 (number x) (numbers_of xs))
      go false e = over (S xs) ∙ e

  pub count-numbers : (q : ℕ → Bool) (xs : List A) → count (λ (x : A). pick (used x) (q (number x)) false) xs ≡ count q (numbers_of xs)
  count-numbers q xs = scan-numbers q (counts (λ (x : A). pick (used x) (q (number x)) false)) (counts q) (λ r. refl) xs

  pub any-numbers : (q : ℕ → Bool) (xs : List A) → any (λ (x : A). pick (used x) (q (number x)) false) xs ≡ any q (numbers_of xs)
  any-numbers q xs = scan-numbers q (asks (λ (x : A). pick (used x) (q (number x)) false)) (asks q) (λ r. refl) xs

  pub length-numbers : (xs : List A) → count used xs ≡ length (numbers_of xs)
  length-numbers [] = refl
  length-numbers (x ∷ xs) = go (used x) (length-numbers xs)
    where
      go : (u : Bool) → count used xs ≡ length (numbers_of xs) → tick u (count used xs) ≡ length (pick u (number x ∷ numbers_of xs) (numbers_of xs))
      go true e = ap suc e
      go false e = e

  -- what holds of every number that is used
  pub all-numbers : (Q : ℕ → Type 0) (xs : List A) → All (λ (x : A). used x ≡ true → Q (number x)) xs → All Q (numbers_of xs)
  all-numbers Q [] w = tt
  all-numbers Q (x ∷ xs) w = go (used x) w.0 (all-numbers Q xs w.1)
    where
      go : (u : Bool) → (u ≡ true → Q (number x)) → All Q (numbers_of xs) → All Q (pick u (number x ∷ numbers_of xs) (numbers_of xs))
      go true f v = (f refl, v)
      go false f v = v

-- "held TSNs distinct"
abbrev pub is_among : ℕ → List ℕ → Bool
is_among t ts = any (λ (y : ℕ). nat_eq y t) ts

abbrev pub Distinct : List ℕ → Type 0
Distinct [] = Unit
Distinct (t ∷ ts) = (is_among t ts ≡ false) × Distinct ts

-- none that is another's
apart : (t : ℕ) (ts : List ℕ) → is_among t ts ≡ false → All (λ (y : ℕ). y ≢ t) ts
apart t [] e = tt
apart t (y ∷ ts) e = go (ℕ_discrete y t) (apart t ts)
  where
    go : Dec (y ≡ t) → (is_among t ts ≡ false → All (λ (z : ℕ). z ≢ t) ts) → (y ≢ t) × All (λ (z : ℕ). z ≢ t) ts
    go (yes q) ih = clash (sym (rw (eq-eqb y t q) at e))
    go (no q) ih = (q, ih (rw (ne_eqb y t q) at e))

-- ---- flags

-- a flag is its own test
abbrev flag : Bool → Bool
flag b = b

-- clearing a set flag takes one from the count
clear-one : (cs : List Bool) (i : ℕ) → slice_index_or cs i false ≡ true → count flag cs ≡ suc (count flag (slice_set cs i false))
clear-one [] i e = clash e
clear-one (true ∷ cs) zero e = refl
clear-one (false ∷ cs) zero e = clash e
clear-one (true ∷ cs) (suc i) e = ap suc (clear-one cs i e)
clear-one (false ∷ cs) (suc i) e = clear-one cs i e

below-count : (cs : List Bool) (m : ℕ) → Below cs m → count flag cs ≤ m
below-count [] m b = zero-le
below-count (true ∷ cs) zero b = clash (sym (b 0 zero-le))
below-count (false ∷ cs) zero b = below-count cs zero (λ j h. b (suc j) zero-le)
below-count (true ∷ cs) (suc m) b = suc-le-suc (below-count cs m (λ j h. b (suc j) (suc-le-suc h)))
below-count (false ∷ cs) (suc m) b = omega (arith, below-count cs m (λ j h. b (suc j) (suc-le-suc h)))

-- one below m is clear
hole-count : (cs : List Bool) (m i : ℕ) → Below cs m → i < m → slice_index_or cs i false ≡ false → count flag cs < m
hole-count cs zero i b h e = absurd (omega arith)
hole-count [] (suc m) i b h e = suc-le-suc zero-le
hole-count (true ∷ cs) (suc m) zero b h e = clash (sym e)
hole-count (false ∷ cs) (suc m) zero b h e = suc-le-suc (below-count cs m (λ j l. b (suc j) (suc-le-suc l)))
hole-count (true ∷ cs) (suc m) (suc i) b h e = suc-le-suc (hole-count cs m i (λ j l. b (suc j) (suc-le-suc l)) (le_of_suc-le-suc h) e)
hole-count (false ∷ cs) (suc m) (suc i) b h e = omega (arith, hole-count cs m i (λ j l. b (suc j) (suc-le-suc l)) (le_of_suc-le-suc h) e)

-- the first m flags set: the offsets 1 to m
flag-first : (m d : ℕ) → 0 < d → d ≤ m → flag_of (replicate m true) d ≡ true
flag-first m d l h = rw (le-ltb d 1 l) (get_or-replicate m (d - 1) true false (omega arith))

count-first : (m : ℕ) → count flag (replicate m true) ≡ m
count-first zero = refl
count-first (suc m) = ap suc (count-first m)

-- ---- counts

fewer : (b : Bool) (m : ℕ) → m ≤ tick b m
fewer b m = omega (arith, tick-bit b m)

-- what passes p passes q or r
count-or : (p q r : ℕ → Bool) (ts : List ℕ) → All (λ (y : ℕ). p y ≡ true → (q y ≡ true) ⊎ (r y ≡ true)) ts → count p ts ≤ count q ts + count r ts
count-or p q r [] w = zero-le
count-or p q r (y ∷ ts) w = go (p y) (q y) (r y) w.0 (count-or p q r ts w.1)
  where
    go : (a b c : Bool) → (a ≡ true → (b ≡ true) ⊎ (c ≡ true)) → count p ts ≤ count q ts + count r ts
        → tick a (count p ts) ≤ tick b (count q ts) + tick c (count r ts)
    go false true true f h = omega arith
    go false true false f h = omega arith
    go false false true f h = omega arith
    go false false false f h = h
    go true true true f h = omega arith
    go true true false f h = omega arith
    go true false true f h = omega arith
    go true false false f h = ⊎_elim (λ e. clash e) (λ e. clash e) (f refl)

all_both : {P Q R : ℕ → Type 0} → ((y : ℕ) → P y → Q y → R y) → (ts : List ℕ) → All P ts → All Q ts → All R ts
all_both f [] v w = tt
all_both f (y ∷ ts) v w = (f y v.0 w.0, all_both f ts v.1 w.1)

-- a number that has not come
abbrev pub is_late : Numbering → Keeping → ℕ → Bool
is_late T k y = not (is_come T k y)

pub late-come : (T : Numbering) (k : Keeping) (ts : List ℕ) → length ts ≡ count (is_late T k) ts + count (is_come T k) ts
late-come T k [] = refl
late-come T k (y ∷ ts) = go (is_come T k y) (late-come T k ts)
  where
    go : (c : Bool) → length ts ≡ count (is_late T k) ts + count (is_come T k) ts
        → suc (length ts) ≡ tick (not c) (count (is_late T k) ts) + tick c (count (is_come T k) ts)
    go true e = omega arith
    go false e = omega arith

module _ (T : Numbering) (k : Keeping) (hp : On T k.point.0) where
  -- of distinct numbers, no more lie at set flags than there are
  pub pigeon : (cs : List Bool) (ts : List ℕ) → All (On T) ts → Distinct ts → count (λ (y : ℕ). flag_of cs (offset_of T k y)) ts ≤ count flag cs
  pigeon cs [] w s = zero-le
  pigeon cs (t ∷ ts) w s = go (flag_of cs (offset_of T k t)) refl (λ ds. pigeon ds ts w.1 s.1)
    where
      apart-at : (y : ℕ) → On T y → (y ≢ t) → 0 < offset_of T k t → offset_of T k y ≢ offset_of T k t
      apart-at y hy n l x = n (same_ahead T k t y hp w.0 hy l x)

      go : (b : Bool) → flag_of cs (offset_of T k t) ≡ b
          → ((ds : List Bool) → count (λ (y : ℕ). flag_of ds (offset_of T k y)) ts ≤ count flag ds)
          → tick b (count (λ (y : ℕ). flag_of cs (offset_of T k y)) ts) ≤ count flag cs
      go false q ih = ih cs
      go true q ih =
          let v = flag-inv cs (offset_of T k t) q in
          let ds : List Bool = set cs (offset_of T k t - 1) false in
          let e : count (λ (y : ℕ). flag_of cs (offset_of T k y)) ts ≡ count (λ (y : ℕ). flag_of ds (offset_of T k y)) ts
          = count-alike _ _ ts (all_both (λ y hy n. sym (other-flag cs (offset_of T k t) (offset_of T k y) false v.0 (apart-at y hy n v.0))) ts w.1 (apart t ts s.0)) in
          omega (arith, e, clear-one cs (offset_of T k t - 1) v.1, ih ds)

  -- a number that is to come: fewer than n are held
  pub has_room : (n t : ℕ) (ts : List ℕ) → All (On T) ts → Distinct ts → 0 < offset_of T k t → is_come T k t ≡ false
      → highest_of k + count (is_late T k) ts ≤ n → offset_of T k t + count (is_late T k) ts ≤ n → length ts < n
  unfolding is_come highest_of
  has_room n t ts w s l c a b =
      let m : ℕ = n - count (is_late T k) ts in
      let z : get_or k.come (offset_of T k t - 1) false ≡ false = rw (le-ltb (offset_of T k t) 1 l) at c in
      omega
      (arith, late-come T k ts, pigeon k.come ts w s, hole-count k.come m (offset_of T k t - 1) (λ j h. highest-below k.come j (omega arith)) (omega arith) z)

module _ {T : Numbering} {P : Profile} {k : Keeping} {t : ℕ} (w : Comes T P k t)
    (ts : List ℕ) (hs : All (On T) ts) (s : Distinct ts) (new : is_among t ts ≡ false) where
  -- the number held with the others: no more are late than were, and the steps that the point moved
  pub late-after : count (is_late T (marked_come T P k t)) (t ∷ ts) ≤ count (is_late T k) ts + moved_by T k t
  late-after =
      omega
      (arith, pigeon T k w.point (replicate (moved_by T k t) true) (t ∷ ts) (w.number, hs) (new, s), count-first (moved_by T k t), others, own (is_come T (marked_come T P k t) t) refl)
    where
      q : ℕ → Bool
      q y = flag_of (replicate (moved_by T k t) true) (offset_of T k y)

      others : count (is_late T (marked_come T P k t)) ts ≤ count (is_late T k) ts + count q ts
      others = count-or (is_late T (marked_come T P k t)) (is_late T k) q ts (all_both each ts hs (apart t ts new))
        where
          each : (y : ℕ) → On T y → (y ≢ t) → is_late T (marked_come T P k t) y ≡ true → (is_late T k y ≡ true) ⊎ (q y ≡ true)
          each y hy n e = go (is_come T k y) refl (dec_lt (moved_by T k t) (offset_of T k y))
            where
              c : is_come T (marked_come T P k t) y ≡ false
              c = not-true (is_come T (marked_come T P k t) y) e

              go : (b : Bool) → is_come T k y ≡ b → Dec (moved_by T k t < offset_of T k y) → (is_late T k y ≡ true) ⊎ (q y ≡ true)
              go false f m = inl (rw f)
              go true f (no m) = inr (flag-first (moved_by T k t) (offset_of T k y) (come-below T k y f).0 (omega arith))
              go true f (yes m) =
                  clash (sym c ∙ (come-after w y hy ∙ rw (lt-ltb (moved_by T k t) (offset_of T k y) m, ne_eqb y t n) f))

      own : (b : Bool) → is_come T (marked_come T P k t) t ≡ b
          → count (is_late T (marked_come T P k t)) (t ∷ ts) + count q ts ≤ count (is_late T (marked_come T P k t)) ts + count q (t ∷ ts)
      own b f = go b f (dec_lt (moved_by T k t) (offset_of T k t))
        where
          go : (b : Bool) → is_come T (marked_come T P k t) t ≡ b → Dec (moved_by T k t < offset_of T k t)
              → count (is_late T (marked_come T P k t)) (t ∷ ts) + count q ts ≤ count (is_late T (marked_come T P k t)) ts + count q (t ∷ ts)
          go true f m = rw f (omega (arith, fewer (q t) (count q ts)))
          go false f (yes m) =
              clash (sym f ∙ (come-after w t w.number ∙ rw (lt-ltb (moved_by T k t) (offset_of T k t) m, eq-eqb t t refl)))
          go false f (no m) = rw (f, flag-first (moved_by T k t) (offset_of T k t) w.ahead (omega arith)) (omega arith)

  -- "highest offset come plus low at most 128": kept, whether the number is held or not
  pub bound-kept : (n : ℕ) → highest_of k + count (is_late T k) ts ≤ n → offset_of T k t + count (is_late T k) ts ≤ n
      → highest_of (marked_come T P k t) + count (is_late T (marked_come T P k t)) (t ∷ ts) ≤ n
  bound-kept n a b = go (dec_lt (highest_of k) (offset_of T k t))
    where
      go : Dec (highest_of k < offset_of T k t) → highest_of (marked_come T P k t) + count (is_late T (marked_come T P k t)) (t ∷ ts) ≤ n
      go (yes h) =
          let e : highest_of (marked_come T P k t) + moved_by T k t ≡ offset_of T k t = highest-after w ∙ rw (lt-ltb (highest_of k) (offset_of T k t) h) in
          omega (arith, late-after)
      go (no h) =
          let e : highest_of (marked_come T P k t) + moved_by T k t ≡ highest_of k = highest-after w ∙ rw (le-ltb (highest_of k) (offset_of T k t) (omega arith)) in
          omega (arith, late-after)

  pub bound-kept-unheld : (n : ℕ) → highest_of k + count (is_late T k) ts ≤ n → offset_of T k t + count (is_late T k) ts ≤ n
      → highest_of (marked_come T P k t) + count (is_late T (marked_come T P k t)) ts ≤ n
  bound-kept-unheld n a b =
      omega (arith, bound-kept n a b, fewer (is_late T (marked_come T P k t) t) (count (is_late T (marked_come T P k t)) ts))

-- ---- a place is filled, or freed

-- distinct is: none twice
pub distinct-once : (ts : List ℕ) → Distinct ts → (t : ℕ) → count (λ (y : ℕ). nat_eq y t) ts ≤ 1
distinct-once [] s t = zero-le
distinct-once (y ∷ ts) s t = go (ℕ_discrete y t) (distinct-once ts s.1 t)
  where
    go : Dec (y ≡ t) → count (λ (z : ℕ). nat_eq z t) ts ≤ 1 → tick (y == t) (count (λ (z : ℕ). nat_eq z t) ts) ≤ 1
    go (yes q) h =
        let n : count (λ (z : ℕ). nat_eq z t) ts ≡ 0 = rw q at (none-count (λ (z : ℕ). nat_eq z y) ts s.0) in
        rw (eq-eqb y t q) (omega arith)
    go (no q) h = rw (ne_eqb y t q) h

pub once-distinct : (ts : List ℕ) → ((t : ℕ) → count (λ (y : ℕ). nat_eq y t) ts ≤ 1) → Distinct ts
once-distinct [] f = tt
once-distinct (y ∷ ts) f =
    let h : suc (count (λ (z : ℕ). nat_eq z y) ts) ≤ 1 = rw (eq-eqb y y refl) at (f y) in
    (count_none (λ (z : ℕ). nat_eq z y) ts (omega arith), once-distinct ts (λ t. rest t (y == t) (f t)))
  where
    rest : (t : ℕ) (b : Bool) → tick b (count (λ (z : ℕ). nat_eq z t) ts) ≤ 1 → count (λ (z : ℕ). nat_eq z t) ts ≤ 1
    rest t true g = omega arith
    rest t false g = g

module _ {A : Type 0} (used : A → Bool) (number : A → ℕ) where
  count-cons : (q : ℕ → Bool) (u : Bool) (n : ℕ) (ts : List ℕ) → count q (pick u (n ∷ ts) ts) ≡ tick (pick u (q n) false) (count q ts)
  count-cons q true n ts = refl
  count-cons q false n ts = refl

  -- a number put in a place that was free is one more
  pub count-filled : (q : ℕ → Bool) (xs : List A) (i : ℕ) (x d : A) → i < length xs → used x ≡ true → used (slice_index_or xs i d) ≡ false
      → count q (numbers_of used number (slice_set xs i x)) ≡ count q (number x ∷ numbers_of used number xs)
  count-filled q [] i x d h u v = absurd (omega arith)
  count-filled q (y ∷ xs) zero x d h u v = rw (u, v)
  count-filled q (y ∷ xs) (suc i) x d h u v =
      count-cons q (used y) (number y) (numbers_of used number (slice_set xs i x))
      ∙ (ap (tick (pick (used y) (q (number y)) false)) (count-filled q xs i x d (omega arith) u v)
      ∙ (tick-tick (pick (used y) (q (number y)) false) (q (number x)) (count q (numbers_of used number xs))
      ∙ ap (tick (q (number x))) (sym (count-cons q (used y) (number y) (numbers_of used number xs)))))

  -- one taken out is no more
  pub count-freed : (q : ℕ → Bool) (xs : List A) (i : ℕ) (x : A) → used x ≡ false → count q (numbers_of used number (slice_set xs i x)) ≤ count q (numbers_of used number xs)
  count-freed q [] i x u = zero-le
  count-freed q (y ∷ xs) zero x u =
      rw (u, count-cons q (used y) (number y) (numbers_of used number xs)) (fewer (pick (used y) (q (number y)) false) (count q (numbers_of used number xs)))
  count-freed q (y ∷ xs) (suc i) x u =
      rw (count-cons q (used y) (number y) (numbers_of used number (slice_set xs i x)), count-cons q (used y) (number y) (numbers_of used number xs))
      (go (pick (used y) (q (number y)) false) (count-freed q xs i x u))
    where
      go : (b : Bool) → count q (numbers_of used number (slice_set xs i x)) ≤ count q (numbers_of used number xs)
          → tick b (count q (numbers_of used number (slice_set xs i x))) ≤ tick b (count q (numbers_of used number xs))
      go true h = suc-le-suc h
      go false h = h

  pub distinct-filled : (xs : List A) (i : ℕ) (x d : A) → i < length xs → used x ≡ true → used (slice_index_or xs i d) ≡ false
      → is_among (number x) (numbers_of used number xs) ≡ false → Distinct (numbers_of used number xs) → Distinct (numbers_of used number (slice_set xs i x))
  distinct-filled xs i x d h u v n s =
      once-distinct (numbers_of used number (slice_set xs i x)) (λ t. rw (count-filled (λ (y : ℕ). nat_eq y t) xs i x d h u v) (distinct-once (number x ∷ numbers_of used number xs) (n, s) t))

  pub distinct-freed : (xs : List A) (i : ℕ) (x : A) → used x ≡ false → Distinct (numbers_of used number xs) → Distinct (numbers_of used number (slice_set xs i x))
  distinct-freed xs i x u s =
      once-distinct (numbers_of used number (slice_set xs i x))
      (λ t. omega (arith, count-freed (λ (y : ℕ). nat_eq y t) xs i x u, distinct-once (numbers_of used number xs) s t))
