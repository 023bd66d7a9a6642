-- The sender, on the line: the chunk of each number from the first on, cut from messages one after the other. A chunk is a function of its
-- number, so a repeat is unchanged.
use Rattle.std.specs.Prelude.{ℕ, zero, suc, ◌+◌, ◌-◌, ◌<◌, ◌≤◌, ◌≡◌, Bool, not, eqb}
use Rattle.std.proofs.Math.Path.{refl}
use Rattle.std.proofs.Math.Bool.{true, false}
use mir.Val.{bool_byte as bit}
use Rattle.std.proofs.Common.{add-suc, add-zero, arith}
use borrow.Author.Tests.{le-ltb, eq-eqb, ltb-false, eqb-true}
use Rattle.std.proofs.Math.Dec.{ltb}
use Rattle.scans.specs.Scan.{pick, bit_le}
use Rattle.scans.specs.Each.{clash}
use Rattle.numbers.specs.Profile.{Profile, is_agreed, agreed-below}
use Rattle.holding.specs.declared.held.Chunk.{Chunk}

-- an ordered message of stream s begins at n
unfoldable pub starts : ℕ → (ℕ → Chunk) → ℕ → ℕ → Bool
starts first chunk s n =
    pick (ltb n first) false (pick (not (chunk n).begin) false (pick (chunk n).unordered false (eqb (chunk n).stream.0 s)))

-- how many ordered messages of stream s begin before n
unfoldable pub ordinal : ℕ → (ℕ → Chunk) → ℕ → ℕ → ℕ
ordinal first chunk s zero = 0
ordinal first chunk s (suc n) = ordinal first chunk s n + bit (starts first chunk s n)

-- the premises on the sender; it has nothing else to keep
pub record HonestSender (P : Profile) (first streams : ℕ) (chunk : ℕ → Chunk) : Type 0 where
  -- it numbers its chunks one after the other
  pub number : (n : ℕ) → first ≤ n → (chunk n).tsn.0 ≡ n
  -- it cuts whole messages: one begins at the first number and behind each end, and nowhere else
  pub begins : (chunk first).begin ≡ true
  pub parts : (n : ℕ) → first ≤ n → (chunk (suc n)).begin ≡ (chunk n).end
  -- the chunks of a message are of one stream, of one kind and, if ordered, of one SSN
  pub one-stream : (n : ℕ) → first ≤ n → (chunk n).end ≡ false → (chunk (suc n)).stream.0 ≡ (chunk n).stream.0
  pub one-kind : (n : ℕ) → first ≤ n → (chunk n).end ≡ false → (chunk (suc n)).unordered ≡ (chunk n).unordered
  pub one-ssn : (n : ℕ) → first ≤ n → (chunk n).end ≡ false → (chunk n).unordered ≡ false → (chunk (suc n)).ssn.0 ≡ (chunk n).ssn.0
  -- each stream's ordered messages are numbered 0, 1, 2, … in the order of their first TSNs
  pub in_order : (n : ℕ) → first ≤ n → (chunk n).begin ≡ true → (chunk n).unordered ≡ false
      → (chunk n).ssn.0 ≡ ordinal first chunk (chunk n).stream.0 n
  -- it uses agreed streams
  pub agreed : (n : ℕ) → first ≤ n → is_agreed P (chunk n).stream.0 streams ≡ true

-- ---- laws

module _ {P : Profile} {first streams : ℕ} {chunk : ℕ → Chunk} (send : HonestSender P first streams chunk) where
  pub agreed-few : (n : ℕ) → first ≤ n → (chunk n).stream.0 < P.streams
  agreed-few n l = agreed-below P (chunk n).stream.0 streams (send.agreed n l)

module _ (first : ℕ) (chunk : ℕ → Chunk) where
  pub starts-at : (n : ℕ) → first ≤ n → (chunk n).begin ≡ true → (chunk n).unordered ≡ false → starts first chunk (chunk n).stream.0 n ≡ true
  unfolding starts
  starts-at n l b u = rw (le-ltb n first l, b, u) (eq-eqb (chunk n).stream.0 (chunk n).stream.0 refl)

  pub starts_is : (s n : ℕ) → starts first chunk s n ≡ true → (first ≤ n) × ((chunk n).begin ≡ true) × ((chunk n).unordered ≡ false) × ((chunk n).stream.0 ≡ s)
  unfolding starts
  starts_is s n e = go (ltb n first) (chunk n).begin (chunk n).unordered refl refl refl e
    where
      go : (x y z : Bool) → ltb n first ≡ x → (chunk n).begin ≡ y → (chunk n).unordered ≡ z
          → pick x false (pick (not y) false (pick z false (eqb (chunk n).stream.0 s))) ≡ true
          → (first ≤ n) × ((chunk n).begin ≡ true) × ((chunk n).unordered ≡ false) × ((chunk n).stream.0 ≡ s)
      go true y z a b c q = clash q
      go false false z a b c q = clash q
      go false true true a b c q = clash q
      go false true false a b c q = (ltb-false n first a, b, c, eqb-true (chunk n).stream.0 s q)

  module _ (s : ℕ) where
    pub ordinal-zero : ordinal first chunk s 0 ≡ 0
    unfolding ordinal
    ordinal-zero = refl

    pub ordinal-suc : (n : ℕ) → ordinal first chunk s (suc n) ≡ ordinal first chunk s n + bit (starts first chunk s n)
    unfolding ordinal
    ordinal-suc n = refl

    -- no faster than the numbers
    pub ordinal-slow : (a k : ℕ) → ordinal first chunk s (a + k) ≤ ordinal first chunk s a + k
    ordinal-slow a zero = rw (add-zero a) (omega arith)
    ordinal-slow a (suc k) = rw (add-suc a k) (omega (arith, ordinal-suc (a + k), bit_le (starts first chunk s (a + k)), ordinal-slow a k))

    ordinal-grows : (a k : ℕ) → ordinal first chunk s a ≤ ordinal first chunk s (a + k)
    ordinal-grows a zero = rw (add-zero a) (omega arith)
    ordinal-grows a (suc k) = rw (add-suc a k) (omega (arith, ordinal-suc (a + k), ordinal-grows a k))

    -- each start has an ordinal of its own
    pub ordinal-lt : (a b : ℕ) → starts first chunk s a ≡ true → a < b → ordinal first chunk s a < ordinal first chunk s b
    ordinal-lt a b t l =
        let e : suc a + (b - suc a) ≡ b = omega arith in
        let g : ordinal first chunk s (suc a) ≤ ordinal first chunk s b = rw e at (ordinal-grows (suc a) (b - suc a)) in
        let q : ordinal first chunk s (suc a) ≡ ordinal first chunk s a + 1 = rw t at (ordinal-suc a) in
        omega arith
