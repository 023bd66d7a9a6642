-- A message, chunk by chunk: what `follow` gives is one, and where no number is held twice it gives each. Assumes nothing.
use Prim.Native.Nat.{ℕ, zero, suc, ◌+◌, ◌<◌, ◌≤◌}
use Rattle.std.specs.Prelude.{◌≡◌, Bool, false, not, length, set, get_or, eqb, Option, Some, None}
use Rattle.std.proofs.Math.Path.{refl, ap}
use Rattle.std.proofs.Common.{sym, ◌∙◌, subst, arith, eq-eqb, ne_eqb, eqb-true, get_or-set_other, length-set}
use Rattle.std.proofs.Math.Bool.{true}
use Rattle.std.specs.Bool.{beq}
use mathlib.Core.List.{List, [], ◌∷◌}
use Rattle.std.proofs.Math.Decide.{ℕ_discrete, dec_lt}
use Rattle.std.proofs.lemmas.Bool.{not-false}
use mir.Val.{bool_byte as bit}
use Rattle.scans.specs.Scan.{pick, count, find_from}
use Rattle.scans.specs.CountsLaws.{count_most, count_set, count_at}
use Rattle.scans.specs.Each.{All, clash, after-so, after-not, found-at}
use Rattle.numbers.specs.Numbering.{Numbering, on}
use Rattle.numbers.specs.Profile.{Profile}
use Rattle.numbers.specs.KeepingRoomLaws.{numbers_of, count-numbers, distinct-once}
use Rattle.holding.specs.declared.held.Held.{Held}
use Rattle.holding.specs.Held.{no_held, holds, holds-is, holds-unused, is_held, count-holds}
use Rattle.holding.specs.Message.{Run, broken, whole, led, onward, is_of_one, continues, follow, is_left_end}
use Rattle.meaning.specs.Meant.{fragment_at, IsMessage, Stored}

-- ---- one chunk behind another

-- "one stream, one U bit, and, if ordered, one SSN"
record OfOne (first h : Held) : Type 0 where
  pub stream : h.stream.0 ≡ first.stream.0
  pub kind : h.unordered ≡ first.unordered
  pub ssn : h.unordered ≡ false → h.ssn.0 ≡ first.ssn.0

-- h goes on the run of first at the number t
record Continues (first : Held) (t : ℕ) (h : Held) : Type 0 where
  pub held : h.used ≡ true
  pub number : h.tsn.0 ≡ t
  pub inner : h.begin ≡ false
  pub one : OfOne first h

beq-is : (a b : Bool) → beq a b ≡ true → a ≡ b
beq-is true true e = refl
beq-is true false e = clash e
beq-is false true e = clash e
beq-is false false e = refl

beq-refl : (b : Bool) → beq b b ≡ true
beq-refl true = refl
beq-refl false = refl

one_of : (first h : Held) → is_of_one first h ≡ true → OfOne first h
unfolding is_of_one
one_of first h e =
    let a = after-not (not (eqb h.stream.0 first.stream.0)) _ e in
    let b = after-not (not (beq h.unordered first.unordered)) _ a.1 in
    record {
      stream = eqb-true h.stream.0 first.stream.0 (not-false _ a.0);
      kind = beq-is h.unordered first.unordered (not-false _ b.0);
      ssn = λ u. eqb-true h.ssn.0 first.ssn.0 (rw u at b.1);
    }

of_one : (first h : Held) → OfOne first h → is_of_one first h ≡ true
unfolding is_of_one
of_one first h w = rw (eq-eqb h.stream.0 first.stream.0 w.stream, ← w.kind, beq-refl h.unordered) (go h.unordered refl)
  where
    go : (v : Bool) → h.unordered ≡ v → pick v true (eqb h.ssn.0 first.ssn.0) ≡ true
    go true e = refl
    go false e = eq-eqb h.ssn.0 first.ssn.0 (w.ssn e)

continues-is : (first : Held) (t : ℕ) (h : Held) → continues first t h ≡ true → Continues first t h
unfolding continues
continues-is first t h e =
    let a = after-not (not (holds t h)) _ e in
    let b = after-not h.begin _ a.1 in
    let c = is_held t h (not-false _ a.0) in
    record { held = c.0; number = c.1; inner = b.0; one = one_of first h b.1 }

is-continues : (first : Held) (t : ℕ) (h : Held) → Continues first t h → continues first t h ≡ true
unfolding continues
is-continues first t h w =
    rw (holds-is t h w.held w.number) (ap (λ (b : Bool). pick b false (is_of_one first h)) w.inner ∙ of_one first h w.one)

-- ---- places

-- the only one that passes is found
find-only : {A : Type 0} (p : A → Bool) (d : A) (xs : List A) (i j : ℕ) → j < length xs → p (get_or xs j d) ≡ true
    → ((k : ℕ) → k < length xs → p (get_or xs k d) ≡ true → k ≡ j) → find_from p i xs ≡ Some (i + j)
find-only p d [] i j l e f = absurd (omega arith)
find-only p d (x ∷ xs) i j l e f = go (p x) refl j l e f (find-only p d xs (i + 1))
  where
    go : (t : Bool) → p x ≡ t → (j : ℕ) → j < suc (length xs) → p (get_or (x ∷ xs) j d) ≡ true
        → ((k : ℕ) → k < suc (length xs) → p (get_or (x ∷ xs) k d) ≡ true → k ≡ j)
        → ((j : ℕ) → j < length xs → p (get_or xs j d) ≡ true → ((k : ℕ) → k < length xs → p (get_or xs k d) ≡ true → k ≡ j) → find_from p (i + 1) xs ≡ Some (i + 1 + j))
        → pick t (Some i) (find_from p (i + 1) xs) ≡ Some (i + j)
    go true q j l e f ih = ap Some (omega (arith, f 0 (omega arith) q))
    go false q zero l e f ih = clash (sym q ∙ e)
    go false q (suc j) l e f ih =
        ih j (omega arith) e (λ k m a. let z : suc k ≡ suc j = f (suc k) (omega arith) a in omega arith) ∙ ap Some (omega arith)

-- of what passes at most once there is one place
one_place : {A : Type 0} (p : A → Bool) (d : A) (xs : List A) → p d ≡ false → count p xs ≤ 1
    → (i j : ℕ) → i < length xs → j < length xs → p (get_or xs i d) ≡ true → p (get_or xs j d) ≡ true → i ≡ j
one_place p d xs z m i j l n a b = go (ℕ_discrete j i)
  where
    go : Dec (j ≡ i) → i ≡ j
    go (yes e) = sym e
    go (no e) =
        let c : 1 ≤ count p (set xs i d) = count_at p d (set xs i d) j (omega (arith, length-set xs i d)) (get_d_at e) in
        let s : count p (set xs i d) + 1 ≡ count p xs + 0 = rw (a, z) at (count_set p d xs i d l) in
        absurd (omega arith)
      where
        get_d_at : (j ≡ i → ⊥) → p (get_or (set xs i d) j d) ≡ true
        get_d_at e = rw (get_or-set_other xs i j d d e) b

-- i is none of those
abbrev Missing : ℕ → List ℕ → Type 0
Missing i js = All (λ (j : ℕ). j ≡ i → ⊥) js

-- no place twice
abbrev Apart : List ℕ → Type 0
Apart [] = Unit
Apart (i ∷ is) = Missing i is × Apart is

abbrev is_used : Held → Bool
is_used h = h.used

pub used-within : (hs : List Held) (i : ℕ) → (get_or hs i no_held).used ≡ true → i < length hs
used-within [] i e = clash e
used-within (x ∷ hs) zero e = omega arith
used-within (x ∷ hs) (suc i) e = omega (arith, used-within hs i e)

-- as many places as are used
apart-room : (hs : List Held) (is : List ℕ) → All (λ (i : ℕ). (get_or hs i no_held).used ≡ true) is → Apart is → length is ≤ count is_used hs
apart-room hs [] w a = omega arith
apart-room hs (i ∷ is) w a =
    let s : count is_used (set hs i no_held) + 1 ≡ count is_used hs + 0
    = subst (λ (b : Bool). count is_used (set hs i no_held) + bit b ≡ count is_used hs + 0) w.0 (count_set is_used no_held hs i no_held (used-within hs i w.0)) in
    omega (arith, apart-room (set hs i no_held) is (others is a.0 w.1) a.1)
  where
    others : (js : List ℕ) → Missing i js → All (λ (j : ℕ). (get_or hs j no_held).used ≡ true) js → All (λ (j : ℕ). (get_or (set hs i no_held) j no_held).used ≡ true) js
    others [] m v = tt
    others (j ∷ js) m v = (ap is_used (get_or-set_other hs i j no_held no_held m.0) ∙ v.0, others js m.1 v.1)

-- "held TSNs distinct": no number is held twice
pub stored-once : (P : Profile) (hs : List Held) → Stored P hs → (t : ℕ) → count (holds t) hs ≤ 1
stored-once P hs s t =
    omega (arith, count-holds t hs, count-numbers is_used (λ (h : Held). h.tsn.0) (λ (y : ℕ). eqb y t) hs, distinct-once (numbers_of is_used (λ (h : Held). h.tsn.0) hs) s.apart t)

-- so a number has one place
pub same_place : (hs : List Held) → ((t : ℕ) → count (holds t) hs ≤ 1) → (t i j : ℕ) → holds t (get_or hs i no_held) ≡ true → holds t (get_or hs j no_held) ≡ true → i ≡ j
same_place hs once t i j a b =
    one_place (holds t) no_held hs (holds-unused t no_held refl) (once t) i j (used-within hs i (is_held t (get_or hs i no_held) a).0) (used-within hs j (is_held t (get_or hs j no_held) b).0) a b

-- ---- a run, from its first place on

module _ (T : Numbering) (hs : List Held) where
  abbrev at : ℕ → Held
  at i = get_or hs i no_held

  -- a, which is not the last, and b behind it; and the last
  abbrev Step : Held → Held → Held → Type 0
  Step first a b = (a.used ≡ true) × (a.end ≡ false) × Continues first (on T a.tsn.0 1) b

  abbrev Last : Held → Type 0
  Last a = (a.used ≡ true) × (a.end ≡ true)

  -- the places is lead along the run of first to its last chunk
  abbrev Leads : Held → List ℕ → Type 0
  Leads first [] = ⊥
  Leads first (i ∷ []) = Last (at i)
  Leads first (i ∷ (j ∷ is)) = Step first (at i) (at j) × Leads first (j ∷ is)

  module _ (first : Held) where
    -- the same by index, both ways
    leads-step : (is : List ℕ) → Leads first is → (k : ℕ) → suc k < length is → Step first (fragment_at hs is k) (fragment_at hs is (suc k))
    leads-step [] w k l = absurd w
    leads-step (i ∷ []) w k l = absurd (omega arith)
    leads-step (i ∷ (j ∷ is)) w zero l = w.0
    leads-step (i ∷ (j ∷ is)) w (suc k) l = leads-step (j ∷ is) w.1 k (omega arith)

    leads-last : (is : List ℕ) → Leads first is → (k : ℕ) → suc k ≡ length is → Last (fragment_at hs is k)
    leads-last [] w k e = absurd w
    leads-last (i ∷ []) w zero e = w
    leads-last (i ∷ []) w (suc k) e = absurd (omega arith)
    leads-last (i ∷ (j ∷ is)) w zero e = absurd (omega arith)
    leads-last (i ∷ (j ∷ is)) w (suc k) e = leads-last (j ∷ is) w.1 k (omega arith)

    by_index : (is : List ℕ) → 0 < length is → ((k : ℕ) → suc k < length is → Step first (fragment_at hs is k) (fragment_at hs is (suc k)))
        → ((k : ℕ) → suc k ≡ length is → Last (fragment_at hs is k)) → Leads first is
    by_index [] l s e = omega arith
    by_index (i ∷ []) l s e = e 0 refl
    by_index (i ∷ (j ∷ is)) l s e = (s 0 (omega arith), by_index (j ∷ is) (omega arith) (λ k m. s (suc k) (omega arith)) (λ k m. e (suc k) (omega arith)))

  -- ---- a message is such a run

  message-leads : (i : ℕ) (is : List ℕ) → IsMessage T hs (i ∷ is) → Leads (at i) (i ∷ is)
  message-leads i is w = by_index (at i) (i ∷ is) w.some step last
    where
      step : (k : ℕ) → suc k < suc (length is) → Step (at i) (fragment_at hs (i ∷ is) k) (fragment_at hs (i ∷ is) (suc k))
      step k l = (
        w.held k (omega arith),
        w.ends k (omega arith) ∙ ne_eqb (suc k) (suc (length is)) (λ e. omega arith),
        record {
          held = w.held (suc k) l;
          number = w.successive k l;
          inner = w.begins (suc k) l ∙ ne_eqb (suc k) 0 (λ e. omega arith);
          one = record {
            stream = w.one-stream (suc k) l;
            kind = w.one-kind (suc k) l;
            ssn = λ u. w.one-ssn (sym (w.one-kind (suc k) l) ∙ u) (suc k) l;
          };
        },
      )

      last : (k : ℕ) → suc k ≡ suc (length is) → Last (fragment_at hs (i ∷ is) k)
      last k e = (w.held k (omega arith), w.ends k (omega arith) ∙ eq-eqb (suc k) (suc (length is)) e)

  leads-message : (i : ℕ) (is : List ℕ) → (at i).begin ≡ true → Leads (at i) (i ∷ is) → IsMessage T hs (i ∷ is)
  leads-message i is b w = record {
    some = omega arith;
    held = λ k l. held k (dec_lt (suc k) (suc (length is))) l;
    successive = λ k l. (leads-step (at i) (i ∷ is) w k l).2.number;
    begins = begins;
    ends = λ k l. ends k (dec_lt (suc k) (suc (length is))) l;
    one-stream = λ k l. (one k l).stream;
    one-kind = λ k l. (one k l).kind;
    one-ssn = λ u k l. (one k l).ssn ((one k l).kind ∙ u);
  }
    where
      held : (k : ℕ) → Dec (suc k < suc (length is)) → k < suc (length is) → (fragment_at hs (i ∷ is) k).used ≡ true
      held k (yes m) l = (leads-step (at i) (i ∷ is) w k m).0
      held k (no m) l = (leads-last (at i) (i ∷ is) w k (omega arith)).0

      begins : (k : ℕ) → k < suc (length is) → (fragment_at hs (i ∷ is) k).begin ≡ eqb k 0
      begins zero l = b
      begins (suc k) l = (leads-step (at i) (i ∷ is) w k l).2.inner ∙ sym (ne_eqb (suc k) 0 (λ e. omega arith))

      ends : (k : ℕ) → Dec (suc k < suc (length is)) → k < suc (length is) → (fragment_at hs (i ∷ is) k).end ≡ eqb (suc k) (suc (length is))
      ends k (yes m) l = (leads-step (at i) (i ∷ is) w k m).1 ∙ sym (ne_eqb (suc k) (suc (length is)) (λ e. omega arith))
      ends k (no m) l =
          let e : suc k ≡ suc (length is) = omega arith in
          (leads-last (at i) (i ∷ is) w k e).1 ∙ sym (eq-eqb (suc k) (suc (length is)) e)

      one : (k : ℕ) → k < suc (length is) → OfOne (at i) (fragment_at hs (i ∷ is) k)
      one zero l = record { stream = refl; kind = refl; ssn = λ u. refl }
      one (suc k) l = (leads-step (at i) (i ∷ is) w k l).2.one

  -- ---- what `follow` gives is such a run

  no_run : {A : Type 0} {is : List ℕ} → broken ≡ whole is → A
  no_run {A} {is} e = let z : ◌≡◌ {A = ℕ} 0 1 = cc in absurd (omega arith)

  follow-leads : (first : Held) (more i : ℕ) (is : List ℕ) → (at i).used ≡ true → follow T hs first more i (at i) ≡ whole is
      → (js : List ℕ) × (is ≡ i ∷ js) × Leads first (i ∷ js)
  unfolding follow
  follow-leads first zero i is u q = no_run q
  follow-leads first (suc more) i is u q = go (at i).end refl (λ j ks. follow-leads first more j ks)
    where
      IH : Type 0
      IH = (j : ℕ) (ks : List ℕ) → (at j).used ≡ true → follow T hs first more j (at j) ≡ whole ks → (js : List ℕ) × (ks ≡ j ∷ js) × Leads first (j ∷ js)

      rest : (at i).end ≡ false → IH → (f : Option ℕ) → find_from (continues first (on T (at i).tsn.0 1)) 0 hs ≡ f
          → led i (onward (λ (j : ℕ). follow T hs first more j (at j)) f) ≡ whole is → (js : List ℕ) × (is ≡ i ∷ js) × Leads first (i ∷ js)
      rest n ih None a b = no_run b
      rest n ih (Some j) a b = tail (follow T hs first more j (at j)) refl b
        where
          c : Continues first (on T (at i).tsn.0 1) (at j)
          c = continues-is first _ (at j) (found-at _ no_held hs j a)

          tail : (r : Run) → follow T hs first more j (at j) ≡ r → led i r ≡ whole is → (js : List ℕ) × (is ≡ i ∷ js) × Leads first (i ∷ js)
          tail broken e d = no_run d
          tail (whole ks) e d =
              let v = ih j ks c.held e in
              let k : ks ≡ j ∷ v.0 = v.1 in
              let s : is ≡ i ∷ (j ∷ v.0) = cc in
              (j ∷ v.0, s, ((u, n, c), v.2))

      go : (t : Bool) → (at i).end ≡ t → IH → (js : List ℕ) × (is ≡ i ∷ js) × Leads first (i ∷ js)
      go true e ih =
          let s : whole (i ∷ []) ≡ whole is = rw e at q in
          let p : is ≡ i ∷ [] = cc in
          ([], p, (u, e))
      go false e ih = rest e ih _ refl (rw e at q)

  -- ---- where no number is held twice, it gives each such run

  module _ (once : (t : ℕ) → count (holds t) hs ≤ 1) where
    -- the chunk that goes on is found where it is
    continues-found : (first : Held) (t j : ℕ) → Continues first t (at j) → find_from (continues first t) 0 hs ≡ Some j
    continues-found first t j c =
        find-only (continues first t) no_held hs 0 j here (is-continues first t (at j) c) only ∙ ap Some (omega arith)
      where
        here : j < length hs
        here = used-within hs j c.held

        only : (k : ℕ) → k < length hs → continues first t (at k) ≡ true → k ≡ j
        only k l e =
            let d = continues-is first t (at k) e in
            same_place hs once t k j (holds-is t (at k) d.held d.number) (holds-is t (at j) c.held c.number)

    leads-follow : (first : Held) (more i : ℕ) (is : List ℕ) → Leads first (i ∷ is) → length is < more → follow T hs first more i (at i) ≡ whole (i ∷ is)
    unfolding follow
    leads-follow first zero i is w l = absurd (omega arith)
    leads-follow first (suc more) i [] w l = rw w.1
    leads-follow first (suc more) i (j ∷ is) w l =
        ap (λ (t : Bool). pick t (whole (i ∷ [])) (led i (onward go (find_from (continues first (on T (at i).tsn.0 1)) 0 hs)))) w.0.1
        ∙ (ap (λ (f : Option ℕ). led i (onward go f)) (continues-found first (on T (at i).tsn.0 1) j w.0.2)
        ∙ ap (led i) (leads-follow first more j is w.1 (omega arith)))
      where
        go : ℕ → Run
        go j = follow T hs first more j (at j)

    -- ---- a run comes to no place twice, so it has no more chunks than there are places

    -- what is left of a run does not begin where it began
    no_return : (first : Held) (i : ℕ) (is : List ℕ) → Leads first (i ∷ is) → (j : ℕ) (js : List ℕ) → Leads first (j ∷ js) → length js < length is → j ≡ i → ⊥
    no_return first i is w j js v l e =
        let a : follow T hs first (suc (length is)) i (at i) ≡ whole (i ∷ is) = leads-follow first (suc (length is)) i is w (omega arith) in
        let b : follow T hs first (suc (length is)) j (at j) ≡ whole (j ∷ js) = leads-follow first (suc (length is)) j js v (omega arith) in
        let c : whole (i ∷ is) ≡ whole (j ∷ js) = sym a ∙ subst (λ (k : ℕ). follow T hs first (suc (length is)) k (at k) ≡ whole (j ∷ js)) e b in
        let d : is ≡ js = cc in
        omega (arith, ap (λ (ks : List ℕ). length ks) d)

    leads-missing : (first : Held) (i : ℕ) (is : List ℕ) → Leads first (i ∷ is) → (js : List ℕ) → Leads first js → length js ≤ length is → Missing i js
    leads-missing first i is w [] v l = tt
    leads-missing first i is w (j ∷ []) v l = (no_return first i is w j [] v (omega arith), tt)
    leads-missing first i is w (j ∷ (k ∷ js)) v l =
        (no_return first i is w j (k ∷ js) v (omega arith), leads-missing first i is w (k ∷ js) v.1 (omega arith))

    leads-apart : (first : Held) (is : List ℕ) → Leads first is → Apart is
    leads-apart first [] w = tt
    leads-apart first (i ∷ []) w = (tt, tt)
    leads-apart first (i ∷ (j ∷ is)) w = (leads-missing first i (j ∷ is) w (j ∷ is) w.1 (omega arith), leads-apart first (j ∷ is) w.1)

    leads-held : (first : Held) (is : List ℕ) → Leads first is → All (λ (i : ℕ). (at i).used ≡ true) is
    leads-held first [] w = tt
    leads-held first (i ∷ []) w = (w.0, tt)
    leads-held first (i ∷ (j ∷ is)) w = (w.0.0, leads-held first (j ∷ is) w.1)

    leads-room : (first : Held) (is : List ℕ) → Leads first is → length is ≤ length hs
    leads-room first is w = omega (arith, apart-room hs is (leads-held first is w) (leads-apart first is w), count_most is_used hs)

-- ---- the search for a message finds every one, and nothing else

module _ (T : Numbering) (P : Profile) (hs : List Held) (i : ℕ) where
  pub found-message : (is : List ℕ) → is_left_end (get_or hs i no_held) ≡ true → follow T hs (get_or hs i no_held) P.places i (get_or hs i no_held) ≡ whole is
      → (js : List ℕ) × (is ≡ i ∷ js) × IsMessage T hs (i ∷ js)
  unfolding is_left_end
  found-message is b e =
      let u = after-so (get_or hs i no_held).used (get_or hs i no_held).begin b in
      let c = follow-leads T hs (get_or hs i no_held) P.places i is u.0 e in
      (c.0, c.1, leads-message T hs i c.0 u.1 c.2)

  pub message-begins : (is : List ℕ) → IsMessage T hs (i ∷ is) → is_left_end (get_or hs i no_held) ≡ true
  unfolding is_left_end
  message-begins is w = ap (λ (t : Bool). pick t (get_or hs i no_held).begin false) (w.held 0 (omega arith)) ∙ w.begins 0 (omega arith)

  pub message-found : Stored P hs → (is : List ℕ) → IsMessage T hs (i ∷ is)
      → follow T hs (get_or hs i no_held) P.places i (get_or hs i no_held) ≡ whole (i ∷ is)
  message-found s is w =
      leads-follow T hs once (get_or hs i no_held) P.places i is leads (omega (arith, leads-room T hs once (get_or hs i no_held) (i ∷ is) leads, s.places))
    where
      once : (t : ℕ) → count (holds t) hs ≤ 1
      once = stored-once P hs s

      leads : Leads T hs (get_or hs i no_held) (i ∷ is)
      leads = message-leads T hs i is w
