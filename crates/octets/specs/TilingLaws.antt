-- The walk visits each item once, in order; its items tile the list; over lists that were joined it visits just those.
-- Assumes nothing.
use Rattle.std.specs.Prelude.{ℕ, zero, suc, ◌+◌, ◌-◌, ◌*◌, ◌<◌, ◌≤◌, ◌≡◌, refl, Bool, true, false, List, [], ◌∷◌, ◌++◌, map, ltb, length, drop}
use Rattle.std.proofs.Common.{sym, ap, ◌∙◌, arith, ltb-true, ltb-false, lt-ltb, le-ltb, length-drop, length-append, drop_of_length-le, take-append-drop, drop-drop, drop_at}
use Rattle.std.proofs.Math.Seq.{drop-append-add}
use Rattle.scans.specs.Scan.{pick}
use Rattle.scans.specs.Each.{All}
use Rattle.octets.specs.Walk.{size, walk_by, walk, seek, first_item, over_items, item_at, joined, item_places, over_joined, Whole, PlacesRising}
use Rattle.octets.specs.WalkLaws.{size-least, size-append, walk-budget, walk-all, walk_end, walk-on, first_on, first-end, over-on, over-end}

-- ---- once, in order, at most a quarter of the bytes in number

rising-from : (f g : ℕ) (ks : List ℕ) → f ≤ g → PlacesRising g ks → PlacesRising f ks
rising-from f g [] h w = tt
rising-from f g (k ∷ ks) h w = (omega (arith, w.0), w.1)

pub walk-rises : (s : List ℕ) (at : ℕ) → PlacesRising at (walk s at)
walk-rises s = walk-all s PlacesRising (λ at h. tt) (λ at h ks w. (omega arith, rising-from (at + 4) (at + size (drop at s)) ks (omega (arith, size-least (drop at s))) w))

pub walk-few : (n : ℕ) (s : List ℕ) (at : ℕ) → length s ≤ at + 4 * n → length (walk s at) ≤ n
walk-few n s at = walk-all s (λ at ks. (n : ℕ) → length s ≤ at + 4 * n → length ks ≤ n) (λ at h n l. omega arith) more at n
  where
    more : (at : ℕ) → at < length s → (ks : List ℕ) → ((n : ℕ) → length s ≤ at + size (drop at s) + 4 * n → length ks ≤ n)
        → (n : ℕ) → length s ≤ at + 4 * n → suc (length ks) ≤ n
    more at h ks w zero l = absurd (omega arith)
    more at h ks w (suc n) l = omega (arith, w n (omega (arith, size-least (drop at s))))

-- every place is one of the list
pub walk-within : (s : List ℕ) (at : ℕ) → All (λ (k : ℕ). k < length s) (walk s at)
walk-within s = walk-all s (λ at ks. All (λ (k : ℕ). k < length s) ks) (λ at h. tt) (λ at h ks w. (h, w))

-- ---- the items tile the list

pub walk-tiles : (s : List ℕ) (at : ℕ) → joined (map (item_at s) (walk s at)) ≡ drop at s
walk-tiles s = walk-all s (λ at ks. joined (map (item_at s) ks) ≡ drop at s) (λ at h. sym (drop_of_length-le s {i = at} h)) more
  where
    more : (at : ℕ) → at < length s → (ks : List ℕ) → joined (map (item_at s) ks) ≡ drop (at + size (drop at s)) s → joined (map (item_at s) (at ∷ ks)) ≡ drop at s
    more at h ks w =
        ap (λ (l : List ℕ). item_at s at ++ l) (w ∙ sym (drop-drop (size (drop at s)) at s))
        ∙ take-append-drop (size (drop at s)) (drop at s)

-- ---- a search that found nothing

seek-all : (p : ℕ → Bool) (d : ℕ) (xs : List ℕ) → All (λ (x : ℕ). x < d) xs → d ≤ seek p d xs → All (λ (x : ℕ). p x ≡ false) xs
seek-all p d [] w h = tt
seek-all p d (x ∷ xs) w h = go (p x) refl h (seek-all p d xs w.1)
  where
    go : (t : Bool) → p x ≡ t → d ≤ pick t x (seek p d xs) → (d ≤ seek p d xs → All (λ (y : ℕ). p y ≡ false) xs) → (p x ≡ false) × All (λ (y : ℕ). p y ≡ false) xs
    go true e m ih = absurd (omega (arith, w.0))
    go false e m ih = (e, ih m)

-- no item passes the test
pub first-all : (p : List ℕ → Bool) (s : List ℕ) (at : ℕ) → length s ≤ first_item p s at → All (λ (k : ℕ). p (drop k s) ≡ false) (walk s at)
unfolding first_item
first-all p s at h = seek-all (λ (k : ℕ). p (drop k s)) (length s) (walk s at) (walk-within s at) h

-- ---- lists that were joined

-- where the first of them begins at `at`, it ends within s, and the others begin behind it
module _ (c : List ℕ) (cs : List (List ℕ)) (s : List ℕ) (at : ℕ) (w : Whole c) (e : drop at s ≡ c ++ joined cs) where
  pub joined-within : at < length s
  joined-within = omega (arith, w.some, length-drop at s, ap length e, length-append c (joined cs))

  pub joined-size : size (drop at s) ≡ length c
  joined-size = ap size e ∙ size-append c (joined cs) w.some ∙ w.exact

  pub joined-next : drop (at + size (drop at s)) s ≡ joined cs
  joined-next =
      sym (drop-drop (size (drop at s)) at s)
      ∙ (λ i. drop (joined-size i) (e i))
      ∙ drop_at c (joined cs) (length c) refl

pub joined_end : (s : List ℕ) (at : ℕ) → drop at s ≡ [] → length s ≤ at
joined_end s at e = omega (arith, length-drop at s, ap length e)

-- the walk visits just those
pub walk-joined : (cs : List (List ℕ)) (s : List ℕ) (at : ℕ) → All Whole cs → drop at s ≡ joined cs → walk s at ≡ item_places at cs
walk-joined [] s at w e = walk_end s at (joined_end s at e)
walk-joined (c ∷ cs) s at w e =
    walk-on s at (joined-within c cs s at w.0 e)
    ∙ ap (λ (l : List ℕ). at ∷ l)
    (walk-joined cs s (at + size (drop at s)) w.1 (joined-next c cs s at w.0 e)
    ∙ ap (λ (z : ℕ). item_places (at + z) cs) (joined-size c cs s at w.0 e))

-- none of them passes the test, whatever follows it
pub first-joined : (p : List ℕ → Bool) (cs : List (List ℕ)) (s : List ℕ) (at : ℕ) → All Whole cs
    → All (λ (c : List ℕ). (rest : List ℕ) → p (c ++ rest) ≡ false) cs → drop at s ≡ joined cs → first_item p s at ≡ length s
first-joined p [] s at w n e = first-end p s at (joined_end s at e)
first-joined p (c ∷ cs) s at w n e =
    first_on p s at (joined-within c cs s at w.0 e) (ap p e ∙ n.0 (joined cs))
    ∙ first-joined p cs s (at + size (drop at s)) w.1 n.1 (joined-next c cs s at w.0 e)

-- a fold goes over just those
pub over-joined {ℓ} : {R : Type ℓ} (f : R → List ℕ → R) (r : R) (cs : List (List ℕ)) (s : List ℕ) (at : ℕ) → All Whole cs → drop at s ≡ joined cs
    → over_items f r s at ≡ over_joined f r cs
over-joined f r [] s at w e = over-end f r s at (joined_end s at e)
over-joined f r (c ∷ cs) s at w e =
    over-on f r s at (joined-within c cs s at w.0 e)
    ∙ over-joined f (f r (drop at s)) cs s (at + size (drop at s)) w.1 (joined-next c cs s at w.0 e)
    ∙ ap (λ (l : List ℕ). over_joined f (f r l) cs) e

-- ---- behind a list, items begin as they do without it

shifted : (n : ℕ) (a b : List ℕ) (k : ℕ) → walk_by n (a ++ b) (length a + k) ≡ map (λ (j : ℕ). length a + j) (walk_by n b k)
unfolding walk_by
shifted zero a b k = refl
shifted (suc n) a b k = go (ltb k (length b)) refl (shifted n a b (k + size (drop k b)))
  where
    go : (t : Bool) → ltb k (length b) ≡ t
        → walk_by n (a ++ b) (length a + (k + size (drop k b))) ≡ map (λ (j : ℕ). length a + j) (walk_by n b (k + size (drop k b)))
        → pick (ltb (length a + k) (length (a ++ b))) ((length a + k) ∷ walk_by n (a ++ b) (length a + k + size (drop (length a + k) (a ++ b)))) []
        ≡ map (λ (j : ℕ). length a + j) (pick t (k ∷ walk_by n b (k + size (drop k b))) [])
    go true e ih =
        let z : length a + k + size (drop k b) ≡ length a + (k + size (drop k b)) = omega arith in
        rw (lt-ltb (length a + k) (length (a ++ b)) (omega (arith, ltb-true k (length b) e, length-append a b)), drop-append-add a b k, z, ih)
    go false e ih = rw (le-ltb (length a + k) (length (a ++ b)) (omega (arith, ltb-false k (length b) e, length-append a b)))

seek-map : (p : ℕ → Bool) (d m : ℕ) (xs : List ℕ) → seek p (m + d) (map (λ (j : ℕ). m + j) xs) ≡ m + seek (λ (j : ℕ). p (m + j)) d xs
seek-map p d m [] = refl
seek-map p d m (x ∷ xs) = go (p (m + x)) (seek-map p d m xs)
  where
    go : (t : Bool) → seek p (m + d) (map (λ (j : ℕ). m + j) xs) ≡ m + seek (λ (j : ℕ). p (m + j)) d xs
        → pick t (m + x) (seek p (m + d) (map (λ (j : ℕ). m + j) xs)) ≡ m + pick t x (seek (λ (j : ℕ). p (m + j)) d xs)
    go true e = refl
    go false e = e

pub first-behind : (p : List ℕ → Bool) (a b : List ℕ) → first_item p (a ++ b) (length a) ≡ length a + first_item p b 0
unfolding first_item walk
first-behind p a b =
    let z : length a ≡ length a + 0 = omega arith in
    let n : ℕ = length (a ++ b) in
    ap (λ (k : ℕ). seek (λ (j : ℕ). p (drop j (a ++ b))) n (walk_by n (a ++ b) k)) z
    ∙ ap (λ (l : List ℕ). seek (λ (j : ℕ). p (drop j (a ++ b))) n l) (shifted n a b 0)
    ∙ ap (λ (d : ℕ). seek (λ (j : ℕ). p (drop j (a ++ b))) d (map (λ (j : ℕ). length a + j) (walk_by n b 0))) (length-append a b)
    ∙ seek-map (λ (j : ℕ). p (drop j (a ++ b))) (length b) (length a) (walk_by n b 0)
    ∙ ap (λ (m : ℕ). length a + m)
    ((λ i. seek (λ (j : ℕ). p (drop-append-add a b j i)) (length b) (walk_by n b 0))
    ∙ ap (λ (l : List ℕ). seek (λ (j : ℕ). p (drop j b)) (length b) l) (sym (walk-budget n b 0 (omega (arith, length-append a b)))))
