-- "sent packet at most 548": the chunks that are chosen fit the room of a packet. Assumes nothing.
use Rattle.std.specs.Prelude.{◌≡◌, ℕ, zero, suc, ◌+◌, ◌≤◌, Bool, true, false, List, [], ◌∷◌, get_or, replicate, ◌==◌, nat_le, nat_lt, slice_index_or, slice_set, refl}
use Rattle.std.proofs.Common.{arith, lt-ltb, le-ltb, ltb-false}
use Rattle.numbers.specs.Profile.{Profile}
use Rattle.scans.specs.Scan.{pick}
use Rattle.scans.specs.Upto.{run-keeps, pick-keeps}
use Rattle.scans.specs.Each.{clash}
use Rattle.path.specs.Sizes.{Sizes}
use Rattle.places.specs.declared.place.Place.{Place}
use Rattle.places.specs.Places.{being}
use Rattle.sending.specs.declared.sending.Sending.{Sending}
use Rattle.sending.specs.declared.choosing.Best.{Best}
use Rattle.sending.specs.declared.choosing.Chosen.{Chosen}
use Rattle.sending.specs.Sending.{no_place}
use Rattle.sending.specs.Choose.{size_of, goes, numbered, put, again, first_sent, sent, going, filling, fill_begun, packet_filled}

-- ---- the bytes of the chunks chosen

abbrev pub size_at : List Place → ℕ → ℕ
size_at ps i = size_of (slice_index_or ps i no_place)

-- of a list of places whose first has the index j: those of the first n
abbrev pub sizes_from : List Place → ℕ → ℕ → List ℕ → ℕ
sizes_from ps n j [] = 0
sizes_from ps n j (i ∷ is) = pick (nat_lt j n) (size_at ps i) 0 + sizes_from ps n (j + 1) is

sizes-none : (ps : List Place) (n j : ℕ) (is : List ℕ) → n ≤ j → sizes_from ps n j is ≡ 0
sizes-none ps n j [] h = refl
sizes-none ps n j (i ∷ is) h = rw (le-ltb j n h) (omega (arith, sizes-none ps n (j + 1) is (omega arith)))

-- one chosen more
sizes-more : (ps : List Place) (n i m j : ℕ) (is : List ℕ) → j + m ≡ n → sizes_from ps (n + 1) j (slice_set is m i) ≤ sizes_from ps n j is + size_at ps i
sizes-more ps n i m j [] e = omega arith
sizes-more ps n i zero j (x ∷ is) e =
    rw (lt-ltb j (n + 1) (omega arith), le-ltb j n (omega arith)) (omega (arith, sizes-none ps (n + 1) (j + 1) is (omega arith)))
sizes-more ps n i (suc m) j (x ∷ is) e =
    rw (lt-ltb j (n + 1) (omega arith), lt-ltb j n (omega arith)) (omega (arith, sizes-more ps n i m (j + 1) is (omega arith)))

sizes-alike : (ps qs : List Place) → ((i : ℕ) → size_at qs i ≡ size_at ps i) → (n j : ℕ) (is : List ℕ) → sizes_from qs n j is ≡ sizes_from ps n j is
sizes-alike ps qs e n j [] = refl
sizes-alike ps qs e n j (i ∷ is) = rw (e i, sizes-alike ps qs e n (j + 1) is)

-- a place set to another chunk of the same length
set-alike : (ps : List Place) (i : ℕ) (q : Place) → size_of q ≡ size_at ps i → (j : ℕ) → size_at (slice_set ps i q) j ≡ size_at ps j
set-alike [] i q e j = refl
set-alike (p ∷ ps) zero q e zero = e
set-alike (p ∷ ps) zero q e (suc j) = refl
set-alike (p ∷ ps) (suc i) q e zero = refl
set-alike (p ∷ ps) (suc i) q e (suc j) = set-alike ps i q e j

sent-alike : (P : Profile) (s : Sending) (i j : ℕ) → size_at (sent P s i (slice_index_or s.places i no_place)).places j ≡ size_at s.places j
unfolding sent again first_sent put numbered
sent-alike P s i j =
    pick-keeps (λ (r : Sending). size_at r.places j ≡ size_at s.places j) ((get_or s.places i no_place).status == 3) _ _
    (set-alike s.places i (being (slice_index_or s.places i no_place) 2) refl j)
    (set-alike s.places i _ refl j)

-- ---- the packet

goes-fits : (f : Chosen) (b : Best) (p : Place) → goes f b p ≡ true → size_of p ≤ f.room
unfolding goes
goes-fits f b p e =
    go (nat_le 8589934592 b.rank) (nat_le f.sending.path.control.cwnd f.sending.path.flight) (nat_lt f.room (size_of p)) _ refl e
  where
    go : (s t u rest : Bool) → nat_lt f.room (size_of p) ≡ u → pick s false (pick t false (pick u false rest)) ≡ true → size_of p ≤ f.room
    go true t u r q e = clash e
    go false true u r q e = clash e
    go false false true r q e = clash e
    go false false false r q e = ltb-false f.room (size_of p) q

going-fits : (f : Chosen) → (going f).go ≡ true → size_at f.sending.places (going f).place ≤ f.room
unfolding going
going-fits f e = goes-fits f _ _ e

-- the bytes chosen and the room that is left are no more than the room of a packet
abbrev Fits : Sizes → Chosen → Type 0
Fits z f = sizes_from f.sending.places f.count 0 f.places + f.room ≤ z.room

step_fits : (z : Sizes) (P : Profile) (f : Chosen) → (going f).go ≡ true → Fits z f → Fits z (filling P f (going f).place)
unfolding filling
step_fits z P f g h =
    omega
    (arith, going-fits f g, sizes-more f.sending.places f.count (going f).place f.count 0 f.places (omega arith), sizes-alike f.sending.places (sent P f.sending (going f).place (slice_index_or f.sending.places (going f).place no_place)).places (sent-alike P f.sending (going f).place) (f.count + 1) 0 (slice_set f.places f.count (going f).place))

begun-fits : (z : Sizes) (s : Sending) → Fits z (fill_begun z s)
unfolding fill_begun
begun-fits z s = omega (arith, sizes-none s.places 0 0 (replicate z.bundled 0) (omega arith))

fits_whole : (z : Sizes) (P : Profile) (s : Sending) → Fits z (packet_filled z P s)
unfolding packet_filled
fits_whole z P s = run-keeps (Fits z) (λ f. (going f).go) (λ f. filling P f (going f).place) (step_fits z P) z.bundled (fill_begun z s) (begun-fits z s)

pub filled-fits : (z : Sizes) (P : Profile) (s : Sending) → sizes_from (packet_filled z P s).sending.places (packet_filled z P s).count 0 (packet_filled z P s).places ≤ z.room
filled-fits z P s = omega (arith, fits_whole z P s)
