-- The premises can be met, and the order is the circle's: a message of two chunks that goes over the end of the circle of TSNs, held last chunk first, is
-- the first of two that can be taken, though the other's number is the smaller one. Assumes nothing.
use Rattle.std.specs.Prelude.{ℕ, ◌+◌, ◌-◌, ◌^◌, ◌≡◌, refl, Bool, true, false, List, [], ◌∷◌, replicate}
use Rattle.std.proofs.Common.{arith}
use Rattle.std.proofs.lemmas.List.{length-replicate}
use Rattle.numbers.specs.Circle.{ssn0, on_circle}
use Rattle.numbers.specs.Numbering.{ring, circles, on, far, key}
use Rattle.numbers.specs.Profile.{rail}
use Rattle.holding.specs.declared.held.Held.{Held}
use Rattle.holding.specs.Held.{no_held, holds}
use Rattle.holding.specs.Message.{one, is_of_one, continues, follow, is_left_end, is_due_at, is_expected, opens, better_message, chosen}
use Rattle.meaning.specs.Meant.{IsFirst, Stored, HeldOn}
use Rattle.meaning.specs.Given.{AreaFits}
use Rattle.meaning.proofs.MeantLaws.{chosen-first}

-- a chunk of stream 0 with a payload of 3 bytes
abbrev part : Bool → Bool → Bool → ℕ → Held
part b e u t = record {
  used = true;
  begin = b;
  end = e;
  unordered = u;
  tsn = record { 0 = t };
  stream = record { 0 = 0 };
  ssn = ssn0;
  ppid = 7;
  len = 3;
}

-- the last chunk of an ordered message, an unordered one of one chunk behind it, a free place, and the ordered one's first chunk
abbrev pub example_places : List Held
example_places = part false true false 0 ∷ part true true true 1 ∷ no_held ∷ part true false false (2 ^ 32 - 1) ∷ []

pub example_stored : Stored rail example_places
example_stored = record { places = omega arith; apart = (refl, (refl, (refl, tt))) }

pub on-circle : HeldOn (ring (2 ^ 32)) example_places
on-circle = (λ u. omega arith, (λ u. omega arith, (λ u. omega arith, (λ u. omega arith, tt))))

pub example-fits : AreaFits rail example_places (replicate 65536 9)
example-fits = record {
  enough = omega (arith, length-replicate {A = ℕ} 65536 9);
  fit = (λ u. omega arith, (λ u. omega arith, (λ u. omega arith, (λ u. omega arith, tt))));
}

-- the point is two before the end
chosen_is : chosen circles rail example_places (ssn0 ∷ []) (2 ^ 32 - 2) ≡ one (2 ^ 31 + 1) (3 ∷ 0 ∷ [])
unfolding chosen better_message opens is_expected is_due_at is_left_end follow continues is_of_one holds on far on_circle key
chosen_is = refl

pub first-is : IsFirst circles rail example_places (ssn0 ∷ []) (2 ^ 32 - 2) (3 ∷ 0 ∷ [])
first-is = chosen-first circles rail example_places (ssn0 ∷ []) (2 ^ 32 - 2) example_stored (2 ^ 31 + 1) (3 ∷ 0 ∷ []) chosen_is
