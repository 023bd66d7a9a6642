-- Laws of the bounds' test: what its loops keep, and that it says what the bounds say. Assumes nothing.
use Prim.Native.Nat.{ℕ, zero, suc, ◌+◌, ◌<◌, ◌≤◌, zero-le}
use Rattle.std.specs.Prelude.{◌≡◌, Bool, not, List, [], ◌∷◌, take, drop, get_or, eqb, Option, Some, None}
use Rattle.std.proofs.Math.Path.{refl, ap}
use Rattle.std.proofs.Common.{sym, ◌∙◌, subst, add-one, arith, take-append-drop, take-suc, take_all}
use Rattle.std.proofs.Math.Bool.{true, false}
use borrow.Author.Tests.{lt-ltb, le-ltb, ltb-false}
use Rattle.std.proofs.Math.ListN.{length}
use Rattle.std.proofs.Math.Dec.{ltb}
use Rattle.numbers.specs.declared.keeping.Keeping.{Keeping}
use Rattle.numbers.specs.Numbering.{Numbering}
use Rattle.numbers.specs.Profile.{Profile, is_misfit, misfit-fits, fits-misfit}
use Rattle.numbers.specs.Keeping.{highest_of, keeping_sound}
use Rattle.numbers.specs.KeepingLaws.{sound-bounded, bounded-sound}
use Rattle.numbers.specs.KeepingRoomLaws.{Distinct, count-numbers, distinct-once, once-distinct}
use Rattle.scans.specs.Scan.{pick, tick, any, count}
use Rattle.scans.specs.CountsLaws.{none-count, some-count, count-append}
use Rattle.scans.specs.Each.{all_map, clash, any_none, none_any, upto-none, none-upto}
use Rattle.holding.specs.declared.held.Held.{Held}
use Rattle.holding.specs.Held.{no_held, holds, holds-is, is_held, count-holds}
use Rattle.delivery.specs.declared.receiving.Receiving.{Receiving}
use Rattle.delivery.specs.Receiving.{is_low, low_of}
use Rattle.delivery.specs.ReceivingBounds.{is_used, number_in, held_numbers, HeldFits, ReceivingSound, is_unfit, is_second, is_twice, is_receiving_sound}

-- ---- one pass over the held chunks

-- how many are low, where none is unfit and no number is held twice
abbrev pub low_weight : Numbering → Profile → Keeping → List Held → Option ℕ
low_weight T P k hs = pick (any (is_unfit P) hs) None (pick (is_twice hs) None (Some (count (is_low T k) hs)))

-- there is room for so many beside the highest offset come
abbrev pub weight_fits : ℕ → ℕ → Option ℕ → Bool
weight_fits places above None = false
weight_fits places above (Some low) = pick (ltb places (above + low)) false true

module _ (T : Numbering) (P : Profile) (k : Keeping) (hs : List Held) where
  pub weight-unfit : true ≡ any (is_unfit P) hs → None ≡ low_weight T P k hs
  weight-unfit e = rw (← e)

  pub weight-twice : true ≡ is_twice hs → None ≡ low_weight T P k hs
  weight-twice e = go (any (is_unfit P) hs)
    where
      go : (t : Bool) → None ≡ pick t None (pick (is_twice hs) None (Some (count (is_low T k) hs)))
      go true = refl
      go false = rw (← e)

  pub weight-fit : false ≡ any (is_unfit P) hs → false ≡ is_twice hs → {n : ℕ} → n ≡ count (is_low T k) hs → Some n ≡ low_weight T P k hs
  weight-fit e f g = rw (← e, ← f, g)

-- the bounds by that weight
pub sound-weighed : (T : Numbering) (P : Profile) (r : Receiving)
    → is_receiving_sound T P r ≡ pick (not (keeping_sound P r.keeping)) false (weight_fits P.places (highest_of r.keeping) (low_weight T P r.keeping r.held))
unfolding is_receiving_sound low_of
sound-weighed T P r = ap (pick (not (keeping_sound P r.keeping)) false) (go (any (is_unfit P) r.held) (is_twice r.held))
  where
    never : (t : Bool) → pick t false false ≡ false
    never true = refl
    never false = refl

    go : (a b : Bool)
        → pick a false (pick (ltb P.places (highest_of r.keeping + count (is_low T r.keeping) r.held)) false (not b))
        ≡ weight_fits P.places (highest_of r.keeping) (pick a None (pick b None (Some (count (is_low T r.keeping) r.held))))
    go true b = refl
    go false true = never (ltb P.places (highest_of r.keeping + count (is_low T r.keeping) r.held))
    go false false = refl

-- ---- the test says what the bounds say

module _ (hs : List Held) where
  next-count : (p : Held → Bool) (i : ℕ) → i < length hs → count p (take (i + 1) hs) ≡ count p (take i hs) + tick (p (get_or hs i no_held)) 0
  next-count p i h =
      ap (count p) (ap (λ (k : ℕ). take k hs) (add-one i) ∙ take-suc hs i no_held h) ∙ count-append p (take i hs) (get_or hs i no_held ∷ [])

  -- each number is held once at most
  once : is_twice hs ≡ false → (t i : ℕ) → i ≤ length hs → count (holds t) (take i hs) ≤ 1
  unfolding is_twice
  once e t zero h = zero-le
  once e t (suc i) h = go (holds t (get_or hs i no_held)) refl (once e t i (omega arith))
    where
      more : count (holds t) (take (suc i) hs) ≡ count (holds t) (take i hs) + tick (holds t (get_or hs i no_held)) 0
      more = ap (λ (k : ℕ). count (holds t) (take k hs)) (sym (add-one i)) ∙ next-count (holds t) i (omega arith)

      go : (b : Bool) → holds t (get_or hs i no_held) ≡ b → count (holds t) (take i hs) ≤ 1 → count (holds t) (take (suc i) hs) ≤ 1
      go false q ih = omega (arith, more, ap (λ (b : Bool). tick b 0) q)
      go true q ih =
          let v = is_held t (get_or hs i no_held) q in
          let z : any (holds t) (take i hs) ≡ false
          = subst (λ (x : ℕ). any (holds x) (take i hs) ≡ false) v.1 (rw v.0 at (upto-none (is_second hs) 0 (length hs) e i zero-le (omega arith))) in
          omega (arith, more, ap (λ (b : Bool). tick b 0) q, none-count (holds t) (take i hs) z)

  prefix : (p : Held → Bool) (i : ℕ) → count p (take i hs) ≤ count p hs
  prefix p i = omega (arith, count-append p (take i hs) (drop i hs), ap (count p) (take-append-drop i hs))

  pub twice-apart : is_twice hs ≡ false → Distinct (held_numbers hs)
  twice-apart e =
      once-distinct (held_numbers hs)
      (λ t. omega (arith, once e t (length hs) (omega arith), ap (count (holds t)) (take_all (length hs) hs (omega arith)), count-holds t hs, count-numbers is_used number_in (λ (y : ℕ). eqb y t) hs))

  pub apart-twice : Distinct (held_numbers hs) → is_twice hs ≡ false
  unfolding is_twice
  apart-twice s = none-upto (is_second hs) 0 (length hs) (λ j a b. each j (omega arith))
    where
      each : (i : ℕ) → i < length hs → is_second hs i ≡ false
      each i h = go (get_or hs i no_held).used refl
        where
          t : ℕ
          t = (get_or hs i no_held).tsn.0

          go : (u : Bool) → (get_or hs i no_held).used ≡ u → pick u (any (holds t) (take i hs)) false ≡ false
          go false q = refl
          go true q = at (any (holds t) (take i hs)) refl
            where
              at : (b : Bool) → any (holds t) (take i hs) ≡ b → b ≡ false
              at false x = refl
              at true x =
                  absurd
                  (omega
                  (arith, some-count (holds t) (take i hs) x, next-count (holds t) i h, ap (λ (b : Bool). tick b 0) (holds-is t (get_or hs i no_held) q refl), prefix (holds t) (i + 1), count-holds t hs, count-numbers is_used number_in (λ (y : ℕ). eqb y t) hs, distinct-once (held_numbers hs) s t))

pub unfit-used : (P : Profile) (h : Held) → h.used ≡ true → is_unfit P h ≡ is_misfit P h.len h.stream.0
unfolding is_unfit
unfit-used P h u = rw u

pub unfit-free : (P : Profile) (h : Held) → h.used ≡ false → is_unfit P h ≡ false
unfolding is_unfit
unfit-free P h u = rw u

unfit-fit : (P : Profile) (h : Held) → is_unfit P h ≡ false → h.used ≡ true → HeldFits P h
unfit-fit P h e u = misfit-fits P h.len h.stream.0 (sym (unfit-used P h u) ∙ e)

fit-unfit : (P : Profile) (h : Held) → (h.used ≡ true → HeldFits P h) → is_unfit P h ≡ false
unfolding is_unfit
fit-unfit P h f = go h.used f
  where
    go : (u : Bool) → (u ≡ true → HeldFits P h) → pick u (is_misfit P h.len h.stream.0) false ≡ false
    go false f = refl
    go true f = fits-misfit P h.len h.stream.0 (f refl)

module _ (T : Numbering) (P : Profile) (r : Receiving) where
  pub receiving-test-sound : is_receiving_sound T P r ≡ true → ReceivingSound T P r
  unfolding is_receiving_sound
  receiving-test-sound e =
      go (keeping_sound P r.keeping) (any (is_unfit P) r.held) (ltb P.places (highest_of r.keeping + low_of T r)) (is_twice r.held) refl refl refl refl e
    where
      go : (a b c d : Bool) → keeping_sound P r.keeping ≡ a → any (is_unfit P) r.held ≡ b → ltb P.places (highest_of r.keeping + low_of T r) ≡ c
          → is_twice r.held ≡ d → pick (not a) false (pick b false (pick c false (not d))) ≡ true → ReceivingSound T P r
      go false b c d p q s t e = clash e
      go true true c d p q s t e = clash e
      go true false true d p q s t e = clash e
      go true false false true p q s t e = clash e
      go true false false false p q s t e = record {
        numbers = sound-bounded P r.keeping p;
        fit = all_map (λ h f. unfit-fit P h f) r.held (any_none (is_unfit P) r.held q);
        room = ltb-false P.places (highest_of r.keeping + low_of T r) s;
        apart = twice-apart r.held t;
      }

  pub receiving-sound-test : ReceivingSound T P r → is_receiving_sound T P r ≡ true
  unfolding is_receiving_sound
  receiving-sound-test s =
      rw
      (bounded-sound P r.keeping s.numbers, none_any (is_unfit P) r.held (all_map (λ h f. fit-unfit P h f) r.held s.fit), le-ltb P.places (highest_of r.keeping + low_of T r) s.room, apart-twice r.held s.apart)
