-- A take gives the first message that can be taken, with its bytes; where it answers 17 there is none. Over either numbering and any profile.
use Rattle.std.specs.Prelude.{ℕ, ◌+◌, ◌-◌, ◌/◌, ◌<◌, ◌≤◌, ◌≡◌, Bool, ◌⊎◌, get_or, eqb, leb, ltb}
use Rattle.std.proofs.Math.Path.{refl, sym, ap, subst}
use Rattle.std.proofs.Common.{◌∙◌, arith, mod-lt, ne_eqb, lt-ltb, ltb-true, leb-true, leb-false}
use Rattle.std.proofs.Math.Bool.{true, false}
use mathlib.Core.List.{List, [], ◌∷◌}
use Rattle.std.proofs.Math.Logic.{inl, inr}
use Rattle.std.proofs.Math.Decide.{ℕ_discrete}
use Rattle.numbers.specs.declared.circle.Ssn.{Ssn}
use Rattle.numbers.specs.Circle.{ssn0, along}
use Rattle.numbers.specs.Numbering.{Numbering, Numberings, ring, line, key}
use Rattle.numbers.specs.Profile.{Profile}
use Rattle.numbers.specs.ReachLaws.{On}
use Rattle.scans.specs.Scan.{pick, tick, count}
use Rattle.scans.specs.Each.{all-at, clash, after-so}
use Rattle.holding.specs.declared.held.Held.{Held}
use Rattle.holding.specs.Held.{no_held, holds-is}
use Rattle.holding.specs.Message.{Run, broken, whole, follow, is_left_end, is_expected, opens, Choice, none, one, is_one, chosen, is_due_at}
use Rattle.holding.specs.TakeOrder.{key_at, in_take_order, opened, or_else, first_ready, first_in_order}
use Rattle.holding.specs.TakeOrderLaws.{KeysRising, in-take-order-rising, in-take-order-count, chosen-in-order}
use Rattle.meaning.specs.Meant.{IsNext, CanBeTaken, order_of, IsFirst, Stored, HeldOn}
use Rattle.meaning.specs.RunLaws.{stored-once, same_place, found-message, message-begins, message-found}

-- ---- the first that is ready in an order

no-choice : {A : Type 0} {k : ℕ} {is : List ℕ} → none ≡ one k is → A
no-choice {A} {k} {is} e = let z : ◌≡◌ {A = ℕ} 0 1 = cc in absurd (omega arith)

no_run : {A : Type 0} {is : List ℕ} → broken ≡ whole is → A
no_run {A} {is} e = let z : ◌≡◌ {A = ℕ} 0 1 = cc in absurd (omega arith)

-- something is chosen, of no larger key than t
abbrev AtMost : ℕ → Choice → Type 0
AtMost t none = ⊥
AtMost t (one l is) = l ≤ t

module _ (k : ℕ → ℕ) (ready : ℕ → Run) where
  first-ready : (js : List ℕ) (l : ℕ) (is : List ℕ) → first_ready k ready js ≡ one l is → (i : ℕ) × (l ≡ k i) × (ready i ≡ whole is)
  first-ready [] l is e = no-choice e
  first-ready (j ∷ js) l is e = go (ready j) refl (first-ready js l is) e
    where
      go : (r : Run) → ready j ≡ r → (first_ready k ready js ≡ one l is → (i : ℕ) × (l ≡ k i) × (ready i ≡ whole is))
          → or_else (k j) r (first_ready k ready js) ≡ one l is → (i : ℕ) × (l ≡ k i) × (ready i ≡ whole is)
      go broken q ih e = ih e
      go (whole ks) q ih e =
          let a : k j ≡ l = cc in
          let b : ks ≡ is = cc in
          (j, sym a, q ∙ ap whole b)

  -- one that stands in the order has no smaller key than what the order begins at
  rising-among : (m : ℕ) (js : List ℕ) → KeysRising k m js → (j : ℕ) → 1 ≤ count (eqb j) js → m ≤ k j
  rising-among m [] s j c = absurd (omega arith)
  rising-among m (i ∷ js) s j c = go (ℕ_discrete j i) (rising-among (k i) js s.1 j)
    where
      go : Dec (j ≡ i) → (1 ≤ count (eqb j) js → k i ≤ k j) → m ≤ k j
      go (yes e) ih = omega (arith, s.0, ap k e)
      go (no e) ih = let d : 1 ≤ count (eqb j) js = rw (ne_eqb j i e) at c in omega (arith, s.0, ih d)

  first-least : (m : ℕ) (js : List ℕ) → KeysRising k m js → (j : ℕ) → 1 ≤ count (eqb j) js → (is : List ℕ) → ready j ≡ whole is → AtMost (k j) (first_ready k ready js)
  first-least m [] s j c is w = absurd (omega arith)
  first-least m (i ∷ js) s j c is w = go (ready i) refl (λ d. first-least (k i) js s.1 j d is w) (ℕ_discrete j i)
    where
      later : (j ≡ i → ⊥) → 1 ≤ count (eqb j) js
      later e = rw (ne_eqb j i e) at c

      go : (r : Run) → ready i ≡ r → (1 ≤ count (eqb j) js → AtMost (k j) (first_ready k ready js)) → Dec (j ≡ i) → AtMost (k j) (or_else (k i) r (first_ready k ready js))
      go broken q ih (yes e) = no_run (sym q ∙ (ap ready (sym e) ∙ w))
      go broken q ih (no e) = ih (later e)
      go (whole ks) q ih (yes e) = omega (arith, ap k e)
      go (whole ks) q ih (no e) = rising-among (k i) js s.1 j (later e)

-- ---- of two numbers on the circle only one has a key

key-only : (T : Numbering) (p t u : ℕ) → On T t → On T u → key T p t ≡ key T p u → t ≡ u
unfolding key
key-only (ring n) p t u a b e = go (leb s t) (leb s u) refl refl e
  where
    s : ℕ
    s = along n p (n / 2)

    l : s < n
    l = mod-lt (p + n / 2) (omega arith)

    go : (x y : Bool) → leb s t ≡ x → leb s u ≡ y → pick x (t - s) (n + t - s) ≡ pick y (u - s) (n + u - s) → t ≡ u
    go true true x y e = omega (arith, l, leb-true s t x, leb-true s u y)
    go true false x y e = omega (arith, l, leb-true s t x, leb-false s u y)
    go false true x y e = omega (arith, l, leb-false s t x, leb-true s u y)
    go false false x y e = omega (arith, l, leb-false s t x, leb-false s u y)
key-only line p t u a b e = e

-- ---- a message that can be taken is one that the search has ready

module _ (N : Numberings) (P : Profile) (hs : List Held) (next : List Ssn) where
  expected-due : (h : Held) → is_expected N.ssn P next h ≡ true → (h.unordered ≡ true) ⊎ IsNext N.ssn P next h
  unfolding is_expected
  expected-due h e = go h.unordered refl e
    where
      go : (u : Bool) → h.unordered ≡ u → pick u true (pick (ltb h.stream.0 P.streams) (is_due_at N.ssn (get_or next h.stream.0 ssn0).0 h.ssn.0) false) ≡ true
          → (h.unordered ≡ true) ⊎ IsNext N.ssn P next h
      go true q e = inl q
      go false q e =
          let v = after-so (ltb h.stream.0 P.streams) _ e in
          inr (ltb-true h.stream.0 P.streams v.0, v.1)

  due-expected : (h : Held) → (h.unordered ≡ true) ⊎ IsNext N.ssn P next h → is_expected N.ssn P next h ≡ true
  unfolding is_expected
  due-expected h (inl u) = ap (λ (b : Bool). pick b true (pick (ltb h.stream.0 P.streams) (is_due_at N.ssn (get_or next h.stream.0 ssn0).0 h.ssn.0) false)) u
  due-expected h (inr w) = rw (lt-ltb h.stream.0 P.streams w.0, w.1) (go h.unordered)
    where
      go : (u : Bool) → pick u true true ≡ true
      go true = refl
      go false = refl

  opens-says : (h : Held) → opens N.ssn P next h ≡ true → (is_left_end h ≡ true) × (is_expected N.ssn P next h ≡ true)
  unfolding opens
  opens-says h e = after-so (is_left_end h) (is_expected N.ssn P next h) e

  says-opens : (h : Held) → is_left_end h ≡ true → is_expected N.ssn P next h ≡ true → opens N.ssn P next h ≡ true
  unfolding opens
  says-opens h b e = ap (λ (t : Bool). pick t (is_expected N.ssn P next h) false) b ∙ e

  abbrev ready_at : ℕ → Run
  ready_at i = opened N P hs next i (get_or hs i no_held)

  opened-is : (i : ℕ) (is : List ℕ) → ready_at i ≡ whole is
      → (opens N.ssn P next (get_or hs i no_held) ≡ true) × (follow N.tsn hs (get_or hs i no_held) P.places i (get_or hs i no_held) ≡ whole is)
  unfolding opened
  opened-is i is e = go (opens N.ssn P next (get_or hs i no_held)) refl e
    where
      go : (t : Bool) → opens N.ssn P next (get_or hs i no_held) ≡ t → pick t (follow N.tsn hs (get_or hs i no_held) P.places i (get_or hs i no_held)) broken ≡ whole is
          → (opens N.ssn P next (get_or hs i no_held) ≡ true) × (follow N.tsn hs (get_or hs i no_held) P.places i (get_or hs i no_held) ≡ whole is)
      go true q e = (q, e)
      go false q e = no_run e

  -- what is ready at place i can be taken, and begins there
  ready-taken : (i : ℕ) (is : List ℕ) → ready_at i ≡ whole is → (js : List ℕ) × (is ≡ i ∷ js) × CanBeTaken N P hs next (i ∷ js)
  ready-taken i is e =
      let a = opened-is i is e in
      let b = opens-says (get_or hs i no_held) a.0 in
      let c = found-message N.tsn P hs i is b.0 a.1 in
      (c.0, c.1, record { message = c.2; due = expected-due (get_or hs i no_held) b.1 })

  -- what can be taken is ready at its first place
  taken-ready : Stored P hs → (i : ℕ) (is : List ℕ) → CanBeTaken N P hs next (i ∷ is) → ready_at i ≡ whole (i ∷ is)
  unfolding opened
  taken-ready stored i is c =
      rw (says-opens (get_or hs i no_held) (message-begins N.tsn P hs i is c.message) (due-expected (get_or hs i no_held) c.due))
      (message-found N.tsn P hs i stored is c.message)

  -- ---- the choice

  module _ (point : ℕ) where
    key-is : (i : ℕ) → key_at N.tsn hs point i ≡ key N.tsn point (get_or hs i no_held).tsn.0
    unfolding key_at
    key-is i = refl

    -- what is chosen can be taken; its key is that of its first number. Of any held chunks
    pub chosen-taken : (l : ℕ) (is : List ℕ) → chosen N P hs next point ≡ one l is → CanBeTaken N P hs next is × (l ≡ order_of N.tsn hs point is)
    unfolding first_in_order
    chosen-taken l is e =
        let a = first-ready (key_at N.tsn hs point) ready_at (in_take_order N.tsn hs point) l is (sym (chosen-in-order N P hs next point) ∙ e) in
        let b = ready-taken a.0 is a.2 in
        (subst (CanBeTaken N P hs next) (sym b.1) b.2, a.1 ∙ (key-is a.0 ∙ sym (ap (order_of N.tsn hs point) b.1)))

    module _ (stored : Stored P hs) where
      -- where something can be taken, something is chosen, and nothing that can be taken has a smaller key
      chosen-most : (js : List ℕ) → CanBeTaken N P hs next js → AtMost (order_of N.tsn hs point js) (chosen N P hs next point)
      unfolding first_in_order
      chosen-most [] c = absurd (omega (arith, c.message.some))
      chosen-most (j ∷ js) c =
          subst (AtMost (order_of N.tsn hs point (j ∷ js))) (sym (chosen-in-order N P hs next point))
          (subst (λ (t : ℕ). AtMost t (first_ready (key_at N.tsn hs point) ready_at (in_take_order N.tsn hs point))) (key-is j)
          (first-least (key_at N.tsn hs point) ready_at 0 (in_take_order N.tsn hs point) (in-take-order-rising N.tsn hs point) j among (j ∷ js) (taken-ready stored j js c)))
        where
          among : 1 ≤ count (eqb j) (in_take_order N.tsn hs point)
          among = omega (arith, in-take-order-count N.tsn hs point j, ap (λ (t : Bool). tick t 0) (c.message.held 0 (omega arith)))

      -- what is chosen is the first of those that can be taken
      pub chosen-first : (l : ℕ) (is : List ℕ) → chosen N P hs next point ≡ one l is → IsFirst N P hs next point is
      chosen-first l is e =
          let a = chosen-taken l is e in
          record { ready = a.0; least = λ js c. omega (arith, subst (AtMost (order_of N.tsn hs point js)) e (chosen-most js c), a.1) }

      -- where nothing is chosen, nothing can be taken
      pub chosen_none : chosen N P hs next point ≡ none → (js : List ℕ) → CanBeTaken N P hs next js → ⊥
      chosen_none e js c = subst (AtMost (order_of N.tsn hs point js)) e (chosen-most js c)

      -- "no message can be taken", as a check asks it
      pub one-can : is_one (chosen N P hs next point) ≡ true → (is : List ℕ) × IsFirst N P hs next point is
      one-can e = go (chosen N P hs next point) refl e
        where
          go : (c : Choice) → chosen N P hs next point ≡ c → is_one c ≡ true → (is : List ℕ) × IsFirst N P hs next point is
          go none q e = clash e
          go (one l is) q e = (is, chosen-first l is q)

      pub none-can : is_one (chosen N P hs next point) ≡ false → (js : List ℕ) → CanBeTaken N P hs next js → ⊥
      none-can e = go (chosen N P hs next point) refl e
        where
          go : (c : Choice) → chosen N P hs next point ≡ c → is_one c ≡ false → (js : List ℕ) → CanBeTaken N P hs next js → ⊥
          go none q e = chosen_none q
          go (one l is) q e = clash (sym e)

  -- ---- the first is the only one: no two messages that can be taken have one key

  module _ (point : ℕ) (stored : Stored P hs) (circle : HeldOn N.tsn hs) where
    one_key : (is js : List ℕ) → CanBeTaken N P hs next is → CanBeTaken N P hs next js → order_of N.tsn hs point is ≡ order_of N.tsn hs point js → is ≡ js
    one_key [] js a b e = absurd (omega (arith, a.message.some))
    one_key (i ∷ is) [] a b e = absurd (omega (arith, b.message.some))
    one_key (i ∷ is) (j ∷ js) a b e =
        let u : (get_or hs i no_held).used ≡ true = a.message.held 0 (omega arith) in
        let v : (get_or hs j no_held).used ≡ true = b.message.held 0 (omega arith) in
        let t : (get_or hs i no_held).tsn.0 ≡ (get_or hs j no_held).tsn.0 = key-only N.tsn point (get_or hs i no_held).tsn.0 (get_or hs j no_held).tsn.0 (here i u) (here j v) e in
        let p : i ≡ j
        = same_place hs (stored-once P hs stored) (get_or hs j no_held).tsn.0 i j (holds-is (get_or hs j no_held).tsn.0 (get_or hs i no_held) u t) (holds-is (get_or hs j no_held).tsn.0 (get_or hs j no_held) v refl) in
        let w : whole (i ∷ is) ≡ whole (j ∷ js) = sym (taken-ready stored i is a) ∙ (ap ready_at p ∙ taken-ready stored j js b) in
        cc
      where
        here : (i : ℕ) → (get_or hs i no_held).used ≡ true → On N.tsn (get_or hs i no_held).tsn.0
        here i = all-at (λ (h : Held). h.used ≡ true → On N.tsn h.tsn.0) hs i no_held (λ q. clash q) circle

    pub first-only : (is js : List ℕ) → IsFirst N P hs next point is → IsFirst N P hs next point js → is ≡ js
    first-only is js a b = one_key is js a.ready b.ready (omega (arith, a.least js b.ready, b.least is a.ready))
