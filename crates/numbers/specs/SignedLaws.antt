-- `on_circle` is the signed distance: with Ahead d read as d and Behind d as -d, it is the one whole number between -(n/2 - 1) and n/2 - 1 that
-- is congruent to b - a modulo n, and Opposite where n/2 is congruent to it. Once for every size of circle.
-- Assumes nothing.
use Rattle.std.specs.Prelude.{◌≡◌, ℕ, ◌+◌, ◌-◌, ◌%◌, ◌<◌, ◌≤◌, ◌⊎◌, refl}
use Rattle.std.proofs.Common.{◌∙◌, subst, inl, inr, mod-eq_of_lt, add_comm, arith, le-leb}
use Rattle.std.proofs.Math.Nat.{add-mod_left}
use Rattle.std.proofs.Math.Decide.{dec_lt}
use Rattle.std.proofs.lemmas.Bool.{lt-leb}
use Rattle.numbers.specs.declared.circle.Distance.{Distance}
use Rattle.numbers.specs.declared.circle.Distance.TheVariants.{Ahead, Behind, Opposite}
use Rattle.numbers.specs.Circle.{on_circle, steps, point-or-turn, ahead, opposite, behind-by}

-- x is in the range, and a moved on by x is b
abbrev pub IsFrom : ℕ → ℕ → ℕ → Distance → Type 0
IsFrom n a b (Ahead d) = (d + d < n) × ((a + d) % n ≡ b)
IsFrom n a b (Behind d) = (0 < d) × (d + d < n) × ((b + d) % n ≡ a)
IsFrom n a b Opposite = (h : ℕ) × (h + h ≡ n) × ((a + h) % n ≡ b)

-- d below n on from a, with the turn of the circle taken off
turned : {n x : ℕ} → x < n → (n + x) % n ≡ x
turned {n} {x} h = add-mod_left n x ∙ mod-eq_of_lt h

module _ {n a b : ℕ} (ha : a < n) (hb : b < n) where
  steps_back : {d : ℕ} → 0 < d → d < n → (b + d) % n ≡ a → (n - d + a) % n ≡ b
  steps_back {d} p l e = go (point-or-turn n (b + d) (omega arith) e)
    where
      go : (b + d ≡ a) ⊎ (b + d ≡ n + a) → (n - d + a) % n ≡ b
      go (inl q) = let r : n - d + a ≡ n + b = omega arith in rw r (turned hb)
      go (inr q) = let r : n - d + a ≡ b = omega arith in rw r (mod-eq_of_lt hb)

  -- nothing else is it
  pub only : (x : Distance) → IsFrom n a b x → x ≡ on_circle n a b
  only (Ahead d) w = ahead ha (omega arith) (rw (add_comm d a) w.1) w.0
  only (Behind d) w = behind-by ha (omega arith) (steps_back w.0 (omega arith) w.2) (omega arith) d (omega arith)
  only Opposite w = opposite ha (omega arith) (rw (add_comm w.0 a) w.2) w.1

  steps-lt : steps n a b < n
  steps-lt = go (dec_lt b a)
    where
      go : Dec (b < a) → steps n a b < n
      go (yes h) = rw (lt-leb a b h) (omega arith)
      go (no h) = let l : a ≤ b = omega arith in rw (le-leb a b l) (omega arith)

  steps-reach : (steps n a b + a) % n ≡ b
  steps-reach = go (dec_lt b a)
    where
      go : Dec (b < a) → (steps n a b + a) % n ≡ b
      go (yes h) = let r : n + b - a + a ≡ n + b = omega arith in rw (lt-leb a b h, r) (turned hb)
      go (no h) =
          let l : a ≤ b = omega arith in
          let r : b - a + a ≡ b = omega arith in
          rw (le-leb a b l, r) (mod-eq_of_lt hb)

-- it is one
pub right : {n a b : ℕ} (ha : a < n) (hb : b < n) → IsFrom n a b (on_circle n a b)
right {n} {a} {b} ha hb = go (steps n a b) (steps-lt ha hb) (steps-reach ha hb)
  where
    go : (d : ℕ) → d < n → (d + a) % n ≡ b → IsFrom n a b (on_circle n a b)
    go d hd e = less (dec_lt (d + d) n) (dec_lt n (d + d))
      where
        back : n < d + d → (b + (n - d)) % n ≡ a
        back l = rw (add_comm b (n - d)) (steps_back hb ha (omega arith) hd (rw (add_comm a d) e))

        less : Dec (d + d < n) → Dec (n < d + d) → IsFrom n a b (on_circle n a b)
        less (yes l) m = subst (IsFrom n a b) (ahead ha hd e l) (l, rw (add_comm a d) e)
        less (no l) (yes m) = subst (IsFrom n a b) (behind-by ha hd e m (n - d) refl) (omega arith, omega arith, back m)
        less (no l) (no m) = subst (IsFrom n a b) (opposite ha hd e (omega arith)) (d, omega arith, rw (add_comm a d) e)
