-- Words of a table that is lent: words laid one behind the other, a flag of a word, and what words show, place by place. Assumes nothing.
use Rattle.std.specs.Prelude.{ℕ, zero, suc, ◌+◌, ◌*◌, ◌%◌, ◌<◌, ◌≤◌, ◌≡◌, refl, Bool, true, false, List, [], ◌∷◌, length, set, get_or, eqb, ltb}
use Rattle.std.proofs.Common.{sym, ap, ◌∙◌, arith, eq-eqb, ne_eqb, ltb-true, ltb-false, length-set, get_or-set_same, get_or-set_other}
use mir.Val.{bool_byte as bit}
use Rattle.octets.specs.Bytes.{laid}
use Rattle.octets.specs.BytesLaws.{laid_one, laid_nil, laid_more}

-- ---- words that are laid

pub laid-step : (v : ℕ) (vs ws : List ℕ) (at : ℕ) → laid ws at (v ∷ vs) ≡ laid (set ws at v) (at + 1) vs
laid-step v vs ws at = sym (laid_more (v ∷ []) vs ws at) ∙ ap (λ (l : List ℕ). laid l (at + 1) vs) (laid_one ws at v)

-- before them, and behind, all stays
pub laid-below : (vs ws : List ℕ) (at m : ℕ) → m < at → get_or (laid ws at vs) m 0 ≡ get_or ws m 0
laid-below [] ws at m h = ap (λ (l : List ℕ). get_or l m 0) (laid_nil ws at)
laid-below (v ∷ vs) ws at m h =
    ap (λ (l : List ℕ). get_or l m 0) (laid-step v vs ws at)
    ∙ (laid-below vs (set ws at v) (at + 1) m (omega arith) ∙ get_or-set_other ws at m v 0 (λ e. absurd (omega arith)))

pub laid-above : (vs ws : List ℕ) (at m : ℕ) → at + length vs ≤ m → get_or (laid ws at vs) m 0 ≡ get_or ws m 0
laid-above [] ws at m h = ap (λ (l : List ℕ). get_or l m 0) (laid_nil ws at)
laid-above (v ∷ vs) ws at m h =
    ap (λ (l : List ℕ). get_or l m 0) (laid-step v vs ws at)
    ∙ (laid-above vs (set ws at v) (at + 1) m (omega arith) ∙ get_or-set_other ws at m v 0 (λ e. absurd (omega arith)))

-- where they fit, each stands in its place
pub laid_in : (vs ws : List ℕ) (at k m : ℕ) → at + length vs ≤ length ws → k < length vs → m ≡ at + k → get_or (laid ws at vs) m 0 ≡ get_or vs k 0
laid_in [] ws at k m l h e = absurd (omega arith)
laid_in (v ∷ vs) ws at zero m l h e =
    let q : m ≡ at = omega arith in
    rw q
    (ap (λ (x : List ℕ). get_or x at 0) (laid-step v vs ws at)
    ∙ (laid-below vs (set ws at v) (at + 1) at (omega arith) ∙ get_or-set_same ws at v 0 (omega arith)))
laid_in (v ∷ vs) ws at (suc k) m l h e =
    ap (λ (x : List ℕ). get_or x m 0) (laid-step v vs ws at)
    ∙ laid_in vs (set ws at v) (at + 1) k m (omega (arith, length-set ws at v)) (omega arith) (omega arith)

-- one of two numbers is the less
pub less-or-more : {A : Type 0} (i j : ℕ) → (i ≡ j → ⊥) → (i < j → A) → (j < i → A) → A
less-or-more {A} i j n f g = go (ltb i j) (ltb j i) refl refl
  where
    go : (s t : Bool) → ltb i j ≡ s → ltb j i ≡ t → A
    go true t a b = f (ltb-true i j a)
    go false true a b = g (ltb-true j i b)
    go false false a b = let x = ltb-false i j a in let y = ltb-false j i b in absurd (n (omega (arith, x, y)))

-- ---- a flag of a word: the lowest bit of what is left of it

pub low_bit : (u : Bool) (n y : ℕ) → n ≡ bit u + y * 2 → eqb (n % 2) 1 ≡ u
low_bit true n y e = eq-eqb (n % 2) 1 (omega arith)
low_bit false n y e = ne_eqb (n % 2) 1 (omega arith)

-- ---- what words show

module _ {A : Type 0} (read : List ℕ → ℕ → A) where
  -- n places, from the place i on, each as it is read
  abbrev pub shown_from : ℕ → ℕ → List ℕ → List A
  shown_from i zero ws = []
  shown_from i (suc n) ws = read ws i ∷ shown_from (i + 1) n ws

  -- so many, whatever the words
  pub shown-long : (i n : ℕ) (ws : List ℕ) → length (shown_from i n ws) ≡ n
  shown-long i zero ws = refl
  shown-long i (suc n) ws = ap suc (shown-long (i + 1) n ws)

  from_at : (d : A) (k n : ℕ) (ws : List ℕ) (i : ℕ) → i < n → get_or (shown_from k n ws) i d ≡ read ws (k + i)
  from_at d k zero ws i h = absurd (omega arith)
  from_at d k (suc n) ws zero h = let e : k ≡ k + 0 = omega arith in ap (read ws) e
  from_at d k (suc n) ws (suc i) h = let e : (k + 1) + i ≡ k + suc i = omega arith in from_at d (k + 1) n ws i (omega arith) ∙ ap (read ws) e

  -- the place i, as it is read
  pub shown-at : (d : A) (n : ℕ) (ws : List ℕ) (i : ℕ) → i < n → read ws i ≡ get_or (shown_from 0 n ws) i d
  shown-at d n ws i h = let e : i ≡ 0 + i = omega arith in ap (read ws) e ∙ sym (from_at d 0 n ws i h)

  -- words of which only those of the place j differ
  module _ (j : ℕ) {ws vs : List ℕ} (other : (i : ℕ) → (i ≡ j → ⊥) → read vs i ≡ read ws i) where
    same_after : (m r : ℕ) → j < m → shown_from m r vs ≡ shown_from m r ws
    same_after m zero q = refl
    same_after m (suc r) q = (λ p. other m (λ t. absurd (omega arith)) p ∷ same_after (m + 1) r (omega arith) p)

    from-touched : {x : A} → read vs j ≡ x → (k n i : ℕ) → k + i ≡ j → i < n → shown_from k n vs ≡ set (shown_from k n ws) i x
    from-touched {x} e k zero i q h = absurd (omega arith)
    from-touched {x} e k (suc n) zero q h = (λ p. here p ∷ same_after (k + 1) n (omega arith) p)
      where
        here : read vs k ≡ x
        here = let s : k ≡ j = omega arith in rw s e
    from-touched {x} e k (suc n) (suc i) q h =
        (λ p. other k (λ t. absurd (omega arith)) p ∷ from-touched e (k + 1) n i (omega arith) (omega arith) p)

    -- show that place anew, and all others as they were
    pub shown-touched : {x : A} → read vs j ≡ x → (n : ℕ) → j < n → shown_from 0 n vs ≡ set (shown_from 0 n ws) j x
    shown-touched {x} e n h = from-touched e 0 n j (omega arith) h
