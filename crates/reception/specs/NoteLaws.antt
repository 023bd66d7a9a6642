-- The loop that looks for a number held twice: what it notes of the numbers, by their slots. Assumes nothing.
use Rattle.std.specs.Prelude.{ℕ, ◌+◌, ◌%◌, ◌<◌, ◌≤◌, ◌≡◌, refl, Bool, true, false, List, [], ◌∷◌, length, take, set, replicate, get_or}
use Rattle.std.proofs.Common.{sym, ◌∙◌, add-one, arith, length-set, take-suc, get_or-set_same, get_or-set_other}
use Rattle.std.proofs.Math.Path.{ap}
use Rattle.std.proofs.Math.Decide.{ℕ_discrete}
use Rattle.std.proofs.lemmas.List.{length-replicate}
use Rattle.scans.specs.Scan.{pick, any, either}
use Rattle.scans.specs.CountsLaws.{any_append}
use Rattle.scans.specs.Each.{clash, pick-self}
use Rattle.scans.specs.Upto.{any_upto, Trying, try-start, try-yes, try-no, try-end}
use Rattle.holding.specs.declared.held.Held.{Held}
use Rattle.holding.specs.Held.{no_held, holds, holds-unused, holds-other}
use Rattle.delivery.specs.ReceivingBounds.{is_second, is_twice}

-- one more place
any_next : (p : Held → Bool) (hs : List Held) (i : ℕ) → i < length hs → any p (take (i + 1) hs) ≡ either (any p (take i hs)) (p (get_or hs i no_held))
any_next p hs i h =
    ap (any p) (ap (λ (k : ℕ). take k hs) (add-one i) ∙ take-suc hs i no_held h)
    ∙ (any_append p (take i hs) (get_or hs i no_held ∷ []) ∙ ap (either (any p (take i hs))) (pick-self (p (get_or hs i no_held))))

-- a place that does not hold the number
any-other : (t : ℕ) (hs : List Held) (i : ℕ) → i < length hs → holds t (get_or hs i no_held) ≡ false → any (holds t) (take i hs) ≡ false → any (holds t) (take (i + 1) hs) ≡ false
any-other t hs i h e f = any_next (holds t) hs i h ∙ (ap (either (any (holds t) (take i hs))) e ∙ (pick-self (any (holds t) (take i hs)) ∙ f))

-- past i of m places: no number is held twice, and none is held whose slot is not noted
pub record Checking (hs : List Held) (m : ℕ) (seen : List Bool) (i : ℕ) : Type 0 where
  pub long : length hs ≡ m
  pub slots : length seen ≡ 128
  pub says : (t : ℕ) → get_or seen (t % 128) false ≡ false → any (holds t) (take i hs) ≡ false
  pub tried : Trying (is_second hs) m i

pub check-start : (hs : List Held) (m : ℕ) → length hs ≡ m → Checking hs m (replicate 128 false) 0
check-start hs m e = record { long = e; slots = length-replicate 128 false; says = λ t q. refl; tried = try-start (is_second hs) m }

module _ {hs : List Held} {m : ℕ} {seen : List Bool} {i : ℕ} (w : Checking hs m seen i) where
  inside : i < m → i < length hs
  inside h = omega (arith, w.long)

  whole : any_upto (is_second hs) 0 m ≡ is_twice hs
  unfolding is_twice
  whole = ap (any_upto (is_second hs) 0) (sym w.long)

  pub check-free : i < m → (get_or hs i no_held).used ≡ false → Checking hs m seen (i + 1)
  check-free h u = record {
    long = w.long;
    slots = w.slots;
    says = λ t q. any-other t hs i (inside h) (holds-unused t (get_or hs i no_held) u) (w.says t q);
    tried = try-no w.tried h (ap (λ (b : Bool). pick b (any (holds (get_or hs i no_held).tsn.0) (take i hs)) false) u);
  }

  pub check-end : m ≤ i → false ≡ is_twice hs
  check-end h = try-end w.tried h ∙ whole

  module _ (h : i < m) (u : (get_or hs i no_held).used ≡ true) where
    second : is_second hs i ≡ any (holds (get_or hs i no_held).tsn.0) (take i hs)
    second = ap (λ (b : Bool). pick b (any (holds (get_or hs i no_held).tsn.0) (take i hs)) false) u

    -- the slot is noted: those before were asked
    module _ {d : ℕ} (e : d ≡ (get_or hs i no_held).tsn.0 % 128) {y : Bool} (b : y ≡ any (holds (get_or hs i no_held).tsn.0) (take i hs)) where
      pub check-held : y ≡ true → true ≡ is_twice hs
      check-held q = try-yes w.tried h (second ∙ (sym b ∙ q)) ∙ whole

      pub check-same : get_or seen d false ≡ true → y ≡ false → Checking hs m seen (i + 1)
      check-same s q = record {
        long = w.long;
        slots = w.slots;
        says = λ t z. any-other t hs i (inside h) (holds-other t (get_or hs i no_held) (λ x. clash (sym z ∙ (ap (λ (k : ℕ). get_or seen k false) (ap (λ (k : ℕ). k % 128) (sym x) ∙ sym e) ∙ s)))) (w.says t z);
        tried = try-no w.tried h (second ∙ (sym b ∙ q));
      }

    -- it is not, and is now
    pub check-new : {d : ℕ} → d ≡ (get_or hs i no_held).tsn.0 % 128 → d < 128 → get_or seen d false ≡ false → Checking hs m (set seen d true) (i + 1)
    check-new {d} e l s = record {
      long = w.long;
      slots = length-set seen d true ∙ w.slots;
      says = λ t z. go t z (ℕ_discrete (t % 128) d);
      tried = try-no w.tried h (second ∙ w.says (get_or hs i no_held).tsn.0 (ap (λ (k : ℕ). get_or seen k false) (sym e) ∙ s));
    }
      where
        go : (t : ℕ) → get_or (set seen d true) (t % 128) false ≡ false → Dec (t % 128 ≡ d) → any (holds t) (take (i + 1) hs) ≡ false
        go t z (yes q) = clash (sym z ∙ (ap (λ (k : ℕ). get_or (set seen d true) k false) q ∙ get_or-set_same seen d true false (omega (arith, w.slots))))
        go t z (no q) =
            any-other t hs i (inside h) (holds-other t (get_or hs i no_held) (λ x. q (ap (λ (k : ℕ). k % 128) (sym x) ∙ sym e)))
            (w.says t (sym (get_or-set_other seen d (t % 128) true false q) ∙ z))

-- a slot noted once more, or beside the others
pub check-noted : {hs : List Held} {m : ℕ} {seen : List Bool} {i : ℕ} → Checking hs m seen i → {d : ℕ} → d < 128 → Checking hs m (set seen d true) i
check-noted {hs} {m} {seen} {i} w {d} l = record {
  long = w.long;
  slots = length-set seen d true ∙ w.slots;
  says = λ t z. go t z (ℕ_discrete (t % 128) d);
  tried = w.tried;
}
  where
    go : (t : ℕ) → get_or (set seen d true) (t % 128) false ≡ false → Dec (t % 128 ≡ d) → any (holds t) (take i hs) ≡ false
    go t z (yes q) = clash (sym z ∙ (ap (λ (k : ℕ). get_or (set seen d true) k false) q ∙ get_or-set_same seen d true false (omega (arith, w.slots))))
    go t z (no q) = w.says t (sym (get_or-set_other seen d (t % 128) true false q) ∙ z)
