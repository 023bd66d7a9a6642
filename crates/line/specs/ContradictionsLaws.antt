-- What is held of an honest sender never contradicts a chunk of it (T-01: "Demand 3 is untouched, since a sender under its premises never does
-- this"); and a circle finds the contradictions that the line finds, as long as what is held is near. Assumes nothing.
use Prim.Native.Nat.{ℕ, suc, ◌+◌, ◌-◌, ◌%◌, ◌≤◌}
use Rattle.std.specs.Prelude.{◌≡◌, Bool, not, List, map}
use Rattle.std.proofs.Math.Path.{refl, sym, ap}
use Rattle.std.proofs.Common.{◌∙◌, arith}
use Rattle.std.proofs.Math.Bool.{true, false}
use Rattle.std.specs.Bool.{beq}
use borrow.Author.Tests.{eqb-true}
use Rattle.std.proofs.Math.Dec.{eqb}
use Rattle.scans.specs.Scan.{pick}
use Rattle.scans.specs.Each.{All, all_map, any-map, none_any}
use Rattle.numbers.specs.Numbering.{ring, line, on, NearerThan, on-law, same-law}
use Rattle.numbers.specs.Profile.{Profile}
use Rattle.holding.specs.declared.held.Chunk.{Chunk}
use Rattle.holding.specs.declared.held.Held.{Held}
use Rattle.holding.specs.Held.{as_held}
use Rattle.delivery.specs.Contradiction.{contradicts, contradicts_next, clashes, is_contradicted, clashes-used, clashes-unused}
use Rattle.line.specs.Reduce.{reduce_held}
use Rattle.line.specs.Sender.{HonestSender}
use Rattle.line.specs.ChosenLaws.{Real}

-- ---- the sender's chunks

-- x begins and ends a message where the sender's chunk of its number does
record Sent (base : ℕ) (chunk : ℕ → Chunk) (x : Held) : Type 0 where
  pub low : base ≤ x.tsn.0
  pub begins : x.begin ≡ (chunk x.tsn.0).begin
  pub ends : x.end ≡ (chunk x.tsn.0).end

alike : (a b : Bool) → b ≡ a → not (beq a b) ≡ false
alike true b e = rw e
alike false b e = rw e

module _ {P : Profile} {base streams : ℕ} {chunk : ℕ → Chunk} (send : HonestSender P base streams chunk) where
  -- of two of them, none contradicts the other
  sent-agree : (g h : Held) → Sent base chunk g → Sent base chunk h → contradicts_next line g h ≡ false
  unfolding contradicts_next contradicts on
  sent-agree g h v w = go (eqb (g.tsn.0 + 1) h.tsn.0) refl
    where
      go : (t : Bool) → eqb (g.tsn.0 + 1) h.tsn.0 ≡ t → pick t (not (beq g.end h.begin)) false ≡ false
      go false e = refl
      go true e =
          let q : h.tsn.0 ≡ suc g.tsn.0 = omega (arith, eqb-true (g.tsn.0 + 1) h.tsn.0 e) in
          alike g.end h.begin
          (w.begins ∙ (ap (λ (x : ℕ). (chunk x).begin) q ∙ (send.parts g.tsn.0 v.low ∙ sym v.ends)))

  -- where what is held is the sender's, it contradicts no chunk of the sender
  pub never-contradicted : (size : ℕ → ℕ) (hs : List Held) → All (Real base chunk size) hs → (n len : ℕ) → base ≤ n
      → is_contradicted line hs (as_held (chunk n) len) ≡ false
  unfolding is_contradicted
  never-contradicted size hs real n len l = none_any (clashes line c) hs (all_map each hs real)
    where
      c : Held
      c = as_held (chunk n) len

      sent : Sent base chunk c
      sent =
          let e : n ≡ (chunk n).tsn.0 = sym (send.number n l) in
          record { low = omega arith; begins = ap (λ (x : ℕ). (chunk x).begin) e; ends = ap (λ (x : ℕ). (chunk x).end) e }

      each : (x : Held) → Real base chunk size x → clashes line c x ≡ false
      each x r = go x.used refl
        where
          go : (u : Bool) → x.used ≡ u → clashes line c x ≡ false
          go false u = clashes-unused line c x u
          go true u =
              let e = r u in
              let held : Sent base chunk x = record { low = e.0; begins = ap (λ (y : Held). y.begin) e.1; ends = ap (λ (y : Held). y.end) e.1 } in
              rw (clashes-used line c x u, sent-agree x c held sent, sent-agree c x sent held)

-- ---- the circle

-- of chunks that are less than a circle apart, with a step to spare
module _ (n m : ℕ) where
  abbrev down : Held → Held
  down = reduce_held n m

  next-law : (g h : Held) → NearerThan n (g.tsn.0 + 1) h.tsn.0 → contradicts_next (ring n) (down g) (down h) ≡ contradicts_next line g h
  unfolding contradicts_next contradicts on
  next-law g h w =
      ap (λ (t : Bool). pick t (contradicts g h) false)
      (ap (λ (x : ℕ). eqb x (h.tsn.0 % n)) (on-law n g.tsn.0 1) ∙ same-law n (g.tsn.0 + 1) h.tsn.0 w)

  pub contradicted-law : (hs : List Held) (c : Held) → All (λ (x : Held). x.used ≡ true → NearerThan (n - 1) x.tsn.0 c.tsn.0) hs
      → is_contradicted (ring n) (map down hs) (down c) ≡ is_contradicted line hs c
  unfolding is_contradicted
  contradicted-law hs c near = any-map down (clashes line c) (clashes (ring n) (down c)) hs (all_map each hs near)
    where
      each : (x : Held) → (x.used ≡ true → NearerThan (n - 1) x.tsn.0 c.tsn.0) → clashes (ring n) (down c) (down x) ≡ clashes line c x
      each x w = go x.used refl
        where
          go : (u : Bool) → x.used ≡ u → clashes (ring n) (down c) (down x) ≡ clashes line c x
          go false u = clashes-unused (ring n) (down c) (down x) u ∙ sym (clashes-unused line c x u)
          go true u =
              let v = w u in
              rw (clashes-used (ring n) (down c) (down x) u, clashes-used line c x u, next-law x c (omega arith), next-law c x (omega arith))
