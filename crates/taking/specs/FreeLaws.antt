-- Free places that stand side by side, and what a loop keeps that passes over them. Assumes nothing.
use Rattle.std.specs.Prelude.{ℕ, zero, suc, ◌+◌, ◌-◌, ◌<◌, ◌≤◌, ◌≡◌, refl, Bool, true, false, not, List, [], ◌∷◌, length, drop, get_or, ltb, Option, Some, None}
use Rattle.std.specs.Option.{is_some}
use Rattle.std.proofs.Common.{sym, ap, ◌∙◌, subst, arith, ltb-false, length-drop, get_or-drop}
use Rattle.numbers.specs.declared.circle.Ssn.{Ssn}
use Rattle.numbers.specs.Numbering.{Numberings}
use Rattle.numbers.specs.Profile.{Profile}
use Rattle.scans.specs.Scan.{pick, find_from, found, front, left_one, left-none, Counting, count_yes}
use Rattle.scans.specs.Each.{clash, fails-behind}
use Rattle.holding.specs.declared.held.Held.{Held}
use Rattle.holding.specs.Held.{no_held, is_held_free}
use Rattle.holding.specs.declared.message.Best.{Best}
use Rattle.holding.specs.Message.{is_left_end, is_expected}
use Rattle.holding.specs.MessageLaws.{is_better, tried_run, Choosing, choose-worse, choose-better}
use Rattle.holding.specs.HoldingTableLaws.{opens-is, better-message-is, free-not-better}
use Rattle.taking.specs.TakeWords.{free_for, next_used}

none_some : {A : Type 0} {i : ℕ} → None ≡ Some i → A
none_some e = clash (ap (λ (found : Option ℕ). is_some found) e)

some_same : {i j : ℕ} → Some i ≡ Some j → i ≡ j
some_same e = cc

-- one, and one more
pub free-two : (hs : List Held) (i : ℕ) {a b : Bool} → a ≡ (get_or hs i no_held).used → b ≡ (get_or hs (i + 1) no_held).used → pick a false (not b) ≡ free_for hs i 2
free-two hs i {a} {b} p q = go a b p q
  where
    go : (a b : Bool) → a ≡ (get_or hs i no_held).used → b ≡ (get_or hs (i + 1) no_held).used → pick a false (not b) ≡ free_for hs i 2
    go true b p q = rw (← p)
    go false true p q = rw (← p, ← q)
    go false false p q = rw (← p, ← q)

-- so many, and so many more
pub free-add : (hs : List Held) (a i b : ℕ) → free_for hs i (a + b) ≡ pick (free_for hs i a) (free_for hs (i + a) b) false
free-add hs zero i b =
    let z : 0 + b ≡ b = omega arith in
    let y : i + 0 ≡ i = omega arith in
    rw (z, y)
free-add hs (suc a) i b = let z : suc a + b ≡ suc (a + b) = omega arith in rw z (go (free-add hs a (i + 1) b) (get_or hs i no_held).used)
  where
    go : free_for hs (i + 1) (a + b) ≡ pick (free_for hs (i + 1) a) (free_for hs (i + 1 + a) b) false → (u : Bool)
        → pick u false (free_for hs (i + 1) (a + b)) ≡ pick (pick u false (free_for hs (i + 1) a)) (free_for hs (i + suc a) b) false
    go e true = refl
    go e false = e ∙ ap (λ (k : ℕ). pick (free_for hs (i + 1) a) (free_for hs k b) false) (omega arith)

-- eight more behind those from the first on
pub free_more : (hs : List Held) (n : ℕ) → free_for hs 0 n ≡ true → free_for hs n 8 ≡ true → free_for hs 0 (n + 8) ≡ true
free_more hs n e f =
    let z : 0 + n ≡ n = omega arith in
    rw (free-add hs n 0 8, e, z) f

-- what is left to ask of n places, where those up to k are free
pub free-one : (hs : List Held) (i n k : ℕ) → i ≤ k → k < i + n → free_for hs k (i + n - k) ≡ free_for hs i n → (get_or hs k no_held).used ≡ false
    → free_for hs (k + 1) (i + n - (k + 1)) ≡ free_for hs i n
free-one hs i n k a b e u = let z : i + n - k ≡ suc (i + n - (k + 1)) = omega arith in rw u at (rw z at e)

pub free-used : (hs : List Held) (i n k : ℕ) → i ≤ k → k < i + n → free_for hs k (i + n - k) ≡ free_for hs i n → (get_or hs k no_held).used ≡ true
    → false ≡ free_for hs i n
free-used hs i n k a b e u = let z : i + n - k ≡ suc (i + n - (k + 1)) = omega arith in rw u at (rw z at e)

pub free-all : (hs : List Held) (i n k : ℕ) → i + n ≤ k → free_for hs k (i + n - k) ≡ free_for hs i n → true ≡ free_for hs i n
free-all hs i n k a e = let z : i + n - k ≡ 0 = omega arith in rw z at e

-- what the test of eight says
pub free-eight : (hs : List Held) (i : ℕ) {y : Bool} → y ≡ pick (ltb 120 i) false (free_for hs i 8) → y ≡ true → (i ≤ 120) × (free_for hs i 8 ≡ true)
free-eight hs i e t = go (ltb 120 i) refl (sym e ∙ t)
  where
    go : (b : Bool) → ltb 120 i ≡ b → pick b false (free_for hs i 8) ≡ true → (i ≤ 120) × (free_for hs i 8 ≡ true)
    go true q x = clash x
    go false q x = (ltb-false 120 i q, x)

-- the first of them, and those behind it
pub free-first : (hs : List Held) (i n : ℕ) → free_for hs i (suc n) ≡ true → ((get_or hs i no_held).used ≡ false) × (free_for hs (i + 1) n ≡ true)
free-first hs i n e = go (get_or hs i no_held).used e
  where
    go : (u : Bool) → pick u false (free_for hs (i + 1) n) ≡ true → (u ≡ false) × (free_for hs (i + 1) n ≡ true)
    go true q = clash q
    go false q = (refl, q)

-- what a free place leaves as it is, many do
pub over-free : (Inv : ℕ → Type 0) (hs : List Held) (n i : ℕ) → free_for hs i n ≡ true
    → ((k : ℕ) → i ≤ k → k < i + n → (get_or hs k no_held).used ≡ false → Inv k → Inv (k + 1)) → Inv i → Inv (i + n)
over-free Inv hs zero i e f w = let z : i ≡ i + 0 = omega arith in subst Inv z w
over-free Inv hs (suc n) i e f w =
    let q = free-first hs i n e in
    let z : i + 1 + n ≡ i + suc n = omega arith in
    subst Inv z (over-free Inv hs n (i + 1) q.1 (λ k a b u v. f k (omega arith) (omega arith) u v) (f i (omega arith) (omega arith) q.0 w))

-- they are all counted
pub count-free : (hs : List Held) {m i c : ℕ} → Counting is_held_free hs m i c → i + 8 ≤ m → free_for hs i 8 ≡ true → Counting is_held_free hs m (i + 8) (c + 8)
count-free hs {m} {i} {c} w l e =
    let z : c ≡ c + (i - i) = omega arith in
    let y : c + (i + 8 - i) ≡ c + 8 = omega arith in
    subst (λ (x : ℕ). Counting is_held_free hs m (i + 8) x) y
    (over-free (λ (k : ℕ). Counting is_held_free hs m k (c + (k - i))) hs 8 i e step (subst (λ (x : ℕ). Counting is_held_free hs m i x) z w))
  where
    step : (k : ℕ) → i ≤ k → k < i + 8 → (get_or hs k no_held).used ≡ false → Counting is_held_free hs m k (c + (k - i)) → Counting is_held_free hs m (k + 1) (c + (k + 1 - i))
    step k a b u v =
        let z : c + (k - i) + 1 ≡ c + (k + 1 - i) = omega arith in
        subst (λ (x : ℕ). Counting is_held_free hs m (k + 1) x) z (count_yes v no_held (omega arith) (ap not u))

-- ---- the first used place from one on

-- a search from `from` on that has passed those before i, all of them free
pub record PassingFree (hs : List Held) (from i : ℕ) : Type 0 where
  pub rest : next_used hs i ≡ next_used hs from

module _ {hs : List Held} {from i : ℕ} (w : PassingFree hs from i) where
  pub pass-free : i < length hs → (get_or hs i no_held).used ≡ false → PassingFree hs from (i + 1)
  pass-free l u = record { rest = rw u at (left_one (find_from (λ (h : Held). h.used) i) hs i w.rest no_held l) }

  pub pass-used : i < length hs → (get_or hs i no_held).used ≡ true → Some i ≡ next_used hs from
  pass-used l u = rw u at (left_one (find_from (λ (h : Held). h.used) i) hs i w.rest no_held l)

  pub pass-end : length hs ≤ i → None ≡ next_used hs from
  pass-end l = left-none (find_from (λ (h : Held). h.used) i) hs i w.rest l

  pub pass-eight : i + 8 ≤ length hs → free_for hs i 8 ≡ true → PassingFree hs from (i + 8)
  pass-eight l e =
      over-free (λ (k : ℕ). PassingFree hs from k) hs 8 i e
      (λ k a b u v. pass_one v (omega arith) u) w
    where
      pass_one : {k : ℕ} → PassingFree hs from k → k < length hs → (get_or hs k no_held).used ≡ false → PassingFree hs from (k + 1)
      pass_one {k} v l u = record { rest = rw u at (left_one (find_from (λ (h : Held). h.used) k) hs k v.rest no_held l) }

-- it is there, at `from` or behind it, and used
pub used-at : (hs : List Held) (from i : ℕ) → next_used hs from ≡ Some i → (from ≤ i) × (i < length hs) × ((get_or hs i no_held).used ≡ true)
used-at hs from i e =
    let w = found (λ (h : Held). h.used) no_held (drop from hs) from i e in
    let q : i ≡ from + w.0 = w.1 in
    (omega arith, omega (arith, length-drop from hs), rw (q, ← get_or-drop from hs w.0 no_held) w.3)

-- what each free place leaves as it is holds at the place found
pub to_used : (Inv : ℕ → Type 0) (hs : List Held) (from i : ℕ) → next_used hs from ≡ Some i
    → ((k : ℕ) → k < length hs → (get_or hs k no_held).used ≡ false → Inv k → Inv (k + 1)) → Inv from → Inv i
to_used Inv hs from i e f w = go (drop from hs) from refl e w
  where
    go : (xs : List Held) (k : ℕ) → xs ≡ drop k hs → find_from (λ (h : Held). h.used) k xs ≡ Some i → Inv k → Inv i
    go [] k q e v = none_some e
    go (x ∷ xs) k q e v =
        let t = front no_held hs k x xs q in
        side x.used (ap (λ (h : Held). h.used) t.1) e (λ u r. go xs (k + 1) t.2 r (f k t.0 u v))
      where
        side : (u : Bool) → (get_or hs k no_held).used ≡ u → pick u (Some k) (find_from (λ (h : Held). h.used) (k + 1) xs) ≡ Some i
            → ((get_or hs k no_held).used ≡ false → find_from (λ (h : Held). h.used) (k + 1) xs ≡ Some i → Inv i) → Inv i
        side true u e on = subst Inv (some_same e) v
        side false u e on = on u e

-- and past the last place where none is found
pub to_end : (Inv : ℕ → Type 0) (hs : List Held) (from : ℕ) → from ≤ length hs → next_used hs from ≡ None
    → ((k : ℕ) → k < length hs → (get_or hs k no_held).used ≡ false → Inv k → Inv (k + 1)) → Inv from → Inv (length hs)
to_end Inv hs from m e f w = go (drop from hs) from m refl e w
  where
    go : (xs : List Held) (k : ℕ) → k ≤ length hs → xs ≡ drop k hs → find_from (λ (h : Held). h.used) k xs ≡ None → Inv k → Inv (length hs)
    go [] k m q e v = let z : k ≡ length hs = omega (arith, m, length-drop k hs, ap (λ (ys : List Held). length ys) q) in subst Inv z v
    go (x ∷ xs) k m q e v =
        let t = front no_held hs k x xs q in
        side x.used (ap (λ (h : Held). h.used) t.1) e (λ u r. go xs (k + 1) (omega (arith, t.0)) t.2 r (f k t.0 u v))
      where
        side : (u : Bool) → (get_or hs k no_held).used ≡ u → pick u (Some k) (find_from (λ (h : Held). h.used) (k + 1) xs) ≡ None
            → ((get_or hs k no_held).used ≡ false → find_from (λ (h : Held). h.used) (k + 1) xs ≡ None → Inv (length hs)) → Inv (length hs)
        side true u e on = none_some (sym e)
        side false u e on = on u e

-- ---- the choice of a message

-- no free place has the first chunk of a message
pub choose-free : (N : Numberings) (P : Profile) (hs : List Held) (next : List Ssn) (point : ℕ) {m i : ℕ} {best : Option Best} → Choosing N P hs next point m i best → i < m
    → (get_or hs i no_held).used ≡ false → Choosing N P hs next point m (i + 1) best
choose-free N P hs next point {m} {i} {best} w l u = choose-worse N P hs next point w l (free-not-better N P next point best (get_or hs i no_held) u)

-- nor have eight
pub choose-eight : (N : Numberings) (P : Profile) (hs : List Held) (next : List Ssn) (point : ℕ) {m i : ℕ} {best : Option Best} → Choosing N P hs next point m i best → i + 8 ≤ m
    → free_for hs i 8 ≡ true → Choosing N P hs next point m (i + 8) best
choose-eight N P hs next point {m} {i} {best} w l e =
    over-free (λ (k : ℕ). Choosing N P hs next point m k best) hs 8 i e
    (λ k a b u v. choose-free N P hs next point v (omega arith) u) w

-- the message at a place, tried where it is better
pub choose-tried : (N : Numberings) (P : Profile) (hs : List Held) (next : List Ssn) (point : ℕ) {m i : ℕ} {best b : Option Best} → Choosing N P hs next point m i best → i < m
    → b ≡ pick (is_better N P next point best (get_or hs i no_held)) (tried_run N.tsn P hs point best i (get_or hs i no_held)) best
    → Choosing N P hs next point m (i + 1) b
choose-tried N P hs next point {m} {i} {best} {b} w l e = go (is_better N P next point best (get_or hs i no_held)) refl e
  where
    go : (t : Bool) → is_better N P next point best (get_or hs i no_held) ≡ t → b ≡ pick t (tried_run N.tsn P hs point best i (get_or hs i no_held)) best
        → Choosing N P hs next point m (i + 1) b
    go true q r = choose-better N P hs next point w b l q r
    go false q r = subst (λ (x : Option Best). Choosing N P hs next point m (i + 1) x) (sym r) (choose-worse N P hs next point w l q)

-- a message that is tried as it was read
pub tried-read : (N : Numberings) (P : Profile) (hs : List Held) (next : List Ssn) (point i : ℕ) (best : Option Best) {b : Option Best} {h : Held} → h ≡ get_or hs i no_held
    → is_better N P next point best h ≡ true → b ≡ tried_run N.tsn P hs point best i h
    → b ≡ pick (is_better N P next point best (get_or hs i no_held)) (tried_run N.tsn P hs point best i (get_or hs i no_held)) best
tried-read N P hs next point i best e t q = rw (← e, t) q

-- nor is a chunk whose message is not the next expected
pub late-not-better : (N : Numberings) (P : Profile) (next : List Ssn) (point : ℕ) (best : Option Best) (h : Held) → is_expected N.ssn P next h ≡ false → is_better N P next point best h ≡ false
late-not-better N P next point best h e = rw (better-message-is N P next point best h, opens-is N.ssn P next h, fails-behind (is_left_end h) e)
