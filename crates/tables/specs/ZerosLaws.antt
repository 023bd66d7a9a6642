-- Tables of zeros: every place free, every SSN 0, as in a record that begins. Assumes nothing.
use Rattle.std.specs.Prelude.{ℕ, zero, suc, ◌+◌, ◌*◌, ◌≡◌, refl, List, ◌∷◌, get_or, replicate}
use Rattle.numbers.specs.Circle.{ssn0}
use Rattle.numbers.specs.Profile.{Profile}
use Rattle.holding.specs.Held.{no_held}
use Rattle.tables.specs.WordsLaws.{shown_from}
use Rattle.tables.specs.HeldWords.{held_decoded, held_at, held_of}
use Rattle.tables.specs.Ssns.{ssn_at, ssns_of}
use Rattle.tables.specs.PlaceWords.{places_of, vacant, place_decoded, place_in}

pub zeros-at : (n i : ℕ) → ◌≡◌ {A = ℕ} (get_or (replicate n 0) i 0) 0
zeros-at zero i = refl
zeros-at (suc n) zero = refl
zeros-at (suc n) (suc i) = zeros-at n i

-- places that are all read alike
pub shown-alike : {A : Type 0} (read : List ℕ → ℕ → A) (ws : List ℕ) (x : A) → ((i : ℕ) → read ws i ≡ x) → (i n : ℕ) → shown_from read i n ws ≡ replicate n x
shown-alike read ws x e i zero = refl
shown-alike read ws x e i (suc n) = (λ p. e i p ∷ shown-alike read ws x e (i + 1) n p)

pub held-zeros : (P : Profile) (n : ℕ) → held_of P (replicate n 0) ≡ replicate P.places no_held
unfolding held_of held_decoded
held-zeros P n =
    shown-alike held_at (replicate n 0) no_held (λ i. rw (zeros-at n (4 * i), zeros-at n (4 * i + 1), zeros-at n (4 * i + 2), zeros-at n (4 * i + 3))) 0 P.places

pub ssns-zeros : (P : Profile) (n : ℕ) → ssns_of P (replicate n 0) ≡ replicate P.streams ssn0
unfolding ssns_of
ssns-zeros P n = shown-alike ssn_at (replicate n 0) ssn0 (λ i. rw (zeros-at n i)) 0 P.streams

pub places-zeros : (P : Profile) (n : ℕ) → places_of P (replicate n 0) ≡ replicate P.places vacant
unfolding places_of place_decoded
places-zeros P n =
    shown-alike place_in (replicate n 0) vacant
    (λ i. rw (zeros-at n (8 * i), zeros-at n (8 * i + 1), zeros-at n (8 * i + 2), zeros-at n (8 * i + 3), zeros-at n (8 * i + 4), zeros-at n (8 * i + 5))) 0 P.places
