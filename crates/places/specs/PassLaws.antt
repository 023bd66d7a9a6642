-- What a pass over all places needs: what is asked of the places, as sums over them, also where each is replaced; a place that is given another state keeps
-- its chunk; a free place stays and adds nothing. Assumes nothing.
use Rattle.std.specs.Prelude.{ℕ, ◌+◌, ◌<◌, ◌≡◌, refl, Bool, true, false, not, ◌||◌, List, [], ◌∷◌, map, eqb, ltb}
use Rattle.std.proofs.Common.{ap, arith, ne_eqb, ltb-true}
use Rattle.numbers.specs.declared.circle.Tsn.{Tsn}
use Rattle.scans.specs.Scan.{pick, either, any, total, count}
use Rattle.scans.specs.Upto.{larger, largest}
use Rattle.places.specs.declared.place.Place.{Place}
use Rattle.places.specs.declared.sack.Sack.{Sack}
use Rattle.places.specs.Places.{being, has_status, flight_of, window_payload, outstanding_offset, is_outstanding, is_sent, place_offset, is_empty, tallied, marked_for_resend, gets, reaches_three, missed, missed_all}
use Rattle.places.specs.SackBlocks.{is_blocked}
use Rattle.places.specs.Sack.{place_settled, is_newly, newly_bytes, newly_offset, sack_taken_in}
use Rattle.places.specs.PlacesLaws.{unsent, settled-unsent}

-- ---- as sums

pub taken-newly : (k : Sack) (from : Tsn) (ps : List Place) → (sack_taken_in k from ps).newly ≡ total (λ p. newly_bytes p (place_settled k p)) ps
unfolding sack_taken_in
taken-newly k from ps = refl

pub taken-highest : (k : Sack) (from : Tsn) (ps : List Place) → (sack_taken_in k from ps).highest ≡ largest (λ p. newly_offset from p (place_settled k p)) ps
unfolding sack_taken_in
taken-highest k from ps = refl

pub missed-struck : (from : Tsn) (limit : ℕ) (ps : List Place) → (missed_all from limit ps).struck ≡ any (reaches_three from limit) ps
unfolding missed_all
missed-struck from limit ps = refl

pub empty-is : (ps : List Place) → is_empty ps ≡ eqb (count (has_status 0) ps) 128
unfolding is_empty
empty-is ps = refl

pub tallied-is : (from : Tsn) (ps : List Place)
    → tallied from ps ≡ record { flight = total flight_of ps; payload = total window_payload ps; left = any is_outstanding ps; last = largest (outstanding_offset from) ps }
unfolding tallied
tallied-is from ps = refl

-- over places that f replaces
module _ (f : Place → Place) where
  pub total-over : (g : Place → ℕ) (ps : List Place) → total (λ p. g (f p)) ps ≡ total g (map f ps)
  total-over g [] = refl
  total-over g (p ∷ ps) = ap (λ (n : ℕ). g (f p) + n) (total-over g ps)

  pub any-over : (g : Place → Bool) (ps : List Place) → any (λ p. g (f p)) ps ≡ any g (map f ps)
  any-over g [] = refl
  any-over g (p ∷ ps) = ap (λ (t : Bool). pick (g (f p)) true t) (any-over g ps)

  pub largest-over : (g : Place → ℕ) (ps : List Place) → largest (λ p. g (f p)) ps ≡ largest g (map f ps)
  largest-over g [] = refl
  largest-over g (p ∷ ps) = ap (λ (n : ℕ). larger (g (f p)) n) (largest-over g ps)

-- ---- another state

-- the chunk stays, and what fits a byte does so still
pub record Restated (p q : Place) : Type 0 where
  pub chunk : q.chunk ≡ p.chunk
  pub status : p.status < 256 → q.status < 256
  pub misses : p.misses < 256 → q.misses < 256

same : (p : Place) → Restated p p
same p = record { chunk = refl; status = λ h. h; misses = λ h. h }

state : (p : Place) (s : ℕ) → s < 256 → Restated p (being p s)
state p s l = record { chunk = refl; status = λ h. l; misses = λ h. h }

pub settled-restated : (k : Sack) (p : Place) → Restated p (place_settled k p)
unfolding place_settled
settled-restated k p = go (is_sent p) (ltb (place_offset k.point p) 1) (is_blocked k.blocks (place_offset k.point p)) (eqb p.status 4) k.whole
  where
    go : (a b c d e : Bool) → Restated p (pick a (pick b (being p 0) (pick c (being p 4) (pick d (pick e (being p 2) p) p))) p)
    go false b c d e = same p
    go true true c d e = state p 0 (omega arith)
    go true false true d e = state p 4 (omega arith)
    go true false false true true = state p 2 (omega arith)
    go true false false true false = same p
    go true false false false e = same p

pub missed-restated : (from : Tsn) (limit : ℕ) (p : Place) → Restated p (missed from limit p)
unfolding missed
missed-restated from limit p = go (gets from limit p) (ltb p.misses 2) (eqb p.misses 2) refl
  where
    go : (a b c : Bool) → ltb p.misses 2 ≡ b
        → Restated p (pick a (pick b (record { status = p.status; misses = p.misses + 1; chunk = p.chunk }) (pick c (record { status = 3; misses = 3; chunk = p.chunk }) p)) p)
    go false b c e = same p
    go true true c e = let l = ltb-true p.misses 2 e in record { chunk = refl; status = λ h. h; misses = λ h. omega (arith, l) }
    go true false true e = record { chunk = refl; status = λ h. omega arith; misses = λ h. omega arith }
    go true false false e = same p

pub marked-restated : (p : Place) → Restated p (marked_for_resend p)
unfolding marked_for_resend
marked-restated p = go (is_outstanding p)
  where
    go : (t : Bool) → Restated p (record { status = pick t 3 p.status; misses = 0; chunk = p.chunk })
    go true = record { chunk = refl; status = λ h. omega arith; misses = λ h. omega arith }
    go false = record { chunk = refl; status = λ h. h; misses = λ h. omega arith }

-- ---- a free place

module _ (p : Place) (h : p.status ≡ 0) where
  pub free-idle : is_outstanding p ≡ false
  unfolding is_outstanding
  free-idle = rw (ne_eqb p.status 2 (λ e. omega arith)) (ne_eqb p.status 3 (λ e. omega arith))

  pub free-light : flight_of p ≡ 0
  unfolding flight_of
  free-light = rw (ne_eqb p.status 2 (λ e. omega arith))

  pub free-last : (from : Tsn) → outstanding_offset from p ≡ 0
  unfolding outstanding_offset
  free-last from = rw free-idle

  pub free-settled : (k : Sack) → place_settled k p ≡ p
  free-settled k = settled-unsent k p (unsent p (omega arith))

  pub free_bytes : (q : Place) → newly_bytes p q ≡ 0
  unfolding newly_bytes is_newly
  free_bytes q = rw free-idle

  pub free-offset : (from : Tsn) (q : Place) → newly_offset from p q ≡ 0
  unfolding newly_offset is_newly
  free-offset from q = rw free-idle

  free-gets : (from : Tsn) (limit : ℕ) → gets from limit p ≡ false
  unfolding gets
  free-gets from limit = rw free-idle

  pub free-missed : (from : Tsn) (limit : ℕ) → missed from limit p ≡ p
  unfolding missed
  free-missed from limit = rw (free-gets from limit)

  pub free-reaches : (from : Tsn) (limit : ℕ) → reaches_three from limit p ≡ false
  unfolding reaches_three
  free-reaches from limit = rw (free-gets from limit)

-- ---- a place that a pass leaves as it is

not-both : (b : Bool) → pick b (not b) false ≡ false
not-both true = refl
not-both false = refl

-- one that keeps its status is not newly acknowledged
module _ (p q : Place) (e : q.status ≡ p.status) where
  same-outstanding : is_outstanding q ≡ is_outstanding p
  unfolding is_outstanding
  same-outstanding = rw e

  same-newly : is_newly p q ≡ false
  unfolding is_newly
  same-newly = rw same-outstanding (not-both (is_outstanding p))

  pub same_bytes : newly_bytes p q ≡ 0
  unfolding newly_bytes
  same_bytes = rw same-newly

  pub same-offset : (from : Tsn) → newly_offset from p q ≡ 0
  unfolding newly_offset
  same-offset from = rw same-newly

-- one that gets no miss stays as it is
module _ (from : Tsn) (limit : ℕ) (p : Place) (e : gets from limit p ≡ false) where
  pub unmissed : missed from limit p ≡ p
  unfolding missed
  unmissed = rw e

  pub unreached : reaches_three from limit p ≡ false
  unfolding reaches_three
  unreached = rw e
