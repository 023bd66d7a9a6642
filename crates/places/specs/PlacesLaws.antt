-- What the layers above use of the places. Assumes nothing.
use Rattle.std.specs.Prelude.{ℕ, ◌+◌, ◌<◌, ◌≤◌, ◌≡◌, refl, Bool, true, false, List, map, eqb, ltb}
use Rattle.std.proofs.Common.{sym, ◌∙◌, arith, lt-ltb, le-ltb, eq-eqb, ne_eqb, ltb-true, eqb-true}
use Rattle.std.proofs.Math.Decide.{ℕ_discrete}
use Rattle.numbers.specs.declared.circle.Tsn.{Tsn}
use Rattle.scans.specs.Scan.{pick, any, total}
use Rattle.scans.specs.Each.{clash}
use Rattle.places.specs.declared.place.Place.{Place}
use Rattle.places.specs.declared.sack.Sack.{Sack}
use Rattle.places.specs.Places.{being, flight_of, window_payload, is_outstanding, is_sent, weight_of, place_offset, tallied, marked_for_resend, gets, missed, missed_all}
use Rattle.places.specs.SackBlocks.{is_blocked}
use Rattle.places.specs.Sack.{place_settled, sack_taken_in}

-- the flight is the sum over the places
pub tallied-flight : (from : Tsn) (ps : List Place) → (tallied from ps).flight ≡ total flight_of ps
unfolding tallied
tallied-flight from ps = refl

pub tallied-payload : (from : Tsn) (ps : List Place) → (tallied from ps).payload ≡ total window_payload ps
unfolding tallied
tallied-payload from ps = refl

pub tallied-left : (from : Tsn) (ps : List Place) → (tallied from ps).left ≡ any is_outstanding ps
unfolding tallied
tallied-left from ps = refl

-- what is in flight counts its weight, and nothing else counts
pub flight-flying : (p : Place) → eqb p.status 2 ≡ true → flight_of p ≡ weight_of p
unfolding flight_of
flight-flying p e = rw e

pub flight-other : (p : Place) → eqb p.status 2 ≡ false → flight_of p ≡ 0
unfolding flight_of
flight-other p e = rw e

-- ---- what T3, misses and a SACK leave of a place

-- the chunk stays, a place that was sent, waits or is free is so still, and the limits are kept
pub record PlaceAlike (p q : Place) : Type 0 where
  pub chunk : q.chunk ≡ p.chunk
  pub sent : is_sent q ≡ is_sent p
  pub waits : eqb q.status 1 ≡ eqb p.status 1
  pub free : eqb q.status 0 ≡ eqb p.status 0
  pub status : p.status ≤ 4 → q.status ≤ 4
  pub misses : p.misses ≤ 3 → q.misses ≤ 3

pub alike_self : (p : Place) → PlaceAlike p p
alike_self p = record { chunk = refl; sent = refl; waits = refl; free = refl; status = λ h. h; misses = λ h. h }

-- what is sent is in flight, marked or acknowledged by a block
pub sent-status : (p : Place) → is_sent p ≡ true → (1 < p.status) × (p.status ≤ 4)
unfolding is_sent is_outstanding
sent-status p e = go (eqb p.status 4) (eqb p.status 2) (eqb p.status 3) refl refl refl e
  where
    go : (a b c : Bool) → eqb p.status 4 ≡ a → eqb p.status 2 ≡ b → eqb p.status 3 ≡ c → pick a true (pick b true c) ≡ true → (1 < p.status) × (p.status ≤ 4)
    go true b c u v w e = (omega (arith, eqb-true p.status 4 u), omega (arith, eqb-true p.status 4 u))
    go false true c u v w e = (omega (arith, eqb-true p.status 2 v), omega (arith, eqb-true p.status 2 v))
    go false false true u v w e = (omega (arith, eqb-true p.status 3 w), omega (arith, eqb-true p.status 3 w))
    go false false false u v w e = clash e

pub status-sent : (p : Place) → 1 < p.status → p.status ≤ 4 → is_sent p ≡ true
unfolding is_sent is_outstanding
status-sent p a b = go (ℕ_discrete p.status 4) (ℕ_discrete p.status 2)
  where
    go : Dec (p.status ≡ 4) → Dec (p.status ≡ 2) → pick (eqb p.status 4) true (pick (eqb p.status 2) true (eqb p.status 3)) ≡ true
    go (yes h) d = rw (eq-eqb p.status 4 h)
    go (no h) (yes k) = rw (ne_eqb p.status 4 h, eq-eqb p.status 2 k)
    go (no h) (no k) = rw (ne_eqb p.status 4 h, ne_eqb p.status 2 k) (eq-eqb p.status 3 (omega arith))

pub unsent : (p : Place) → p.status ≤ 1 → is_sent p ≡ false
unfolding is_sent is_outstanding
unsent p h = rw (ne_eqb p.status 4 (λ e. omega arith), ne_eqb p.status 2 (λ e. omega arith), ne_eqb p.status 3 (λ e. omega arith))

pub outstanding-sent : (p : Place) → is_outstanding p ≡ true → is_sent p ≡ true
unfolding is_sent
outstanding-sent p e = go (eqb p.status 4)
  where
    go : (t : Bool) → pick t true (is_outstanding p) ≡ true
    go true = refl
    go false = e

-- a place that was sent and is sent, with its chunk
pub sent-alike : (p q : Place) → is_sent p ≡ true → 1 < q.status → q.status ≤ 4 → q.chunk ≡ p.chunk → (p.misses ≤ 3 → q.misses ≤ 3) → PlaceAlike p q
sent-alike p q e a b c m =
    let w = sent-status p e in
    record {
      chunk = c;
      sent = status-sent q a b ∙ sym e;
      waits = ne_eqb q.status 1 (λ x. omega arith) ∙ sym (ne_eqb p.status 1 (λ x. omega (arith, w.0)));
      free = ne_eqb q.status 0 (λ x. omega arith) ∙ sym (ne_eqb p.status 0 (λ x. omega (arith, w.0)));
      status = λ h. b;
      misses = m;
    }

-- misses do not tell what is sent
same_sent : (p : Place) (m : ℕ) → is_sent (record { status = p.status; misses = m; chunk = p.chunk }) ≡ is_sent p
unfolding is_sent is_outstanding
same_sent p m = refl

pub marked-alike : (p : Place) → PlaceAlike p (marked_for_resend p)
unfolding marked_for_resend
marked-alike p = go (is_outstanding p) refl
  where
    go : (t : Bool) → is_outstanding p ≡ t → PlaceAlike p (record { status = pick t 3 p.status; misses = 0; chunk = p.chunk })
    go true e = sent-alike p (record { status = 3; misses = 0; chunk = p.chunk }) (outstanding-sent p e) (omega arith) (omega arith) refl (λ h. omega arith)
    go false e = unmarked p
      where
        unmarked : (p : Place) → PlaceAlike p (record { status = p.status; misses = 0; chunk = p.chunk })
        unmarked p = record { chunk = refl; sent = same_sent p 0; waits = refl; free = refl; status = λ h. h; misses = λ h. omega arith }

pub missed-alike : (from : Tsn) (limit : ℕ) (p : Place) → PlaceAlike p (missed from limit p)
unfolding missed gets
missed-alike from limit p = go (is_outstanding p) (ltb (place_offset from p) limit) (ltb p.misses 2) (eqb p.misses 2) refl refl
  where
    go : (a b c d : Bool) → is_outstanding p ≡ a → ltb p.misses 2 ≡ c
        → PlaceAlike p (pick (pick a b false) (pick c (record { status = p.status; misses = p.misses + 1; chunk = p.chunk }) (pick d (record { status = 3; misses = 3; chunk = p.chunk }) p)) p)
    go false b c d e f = alike_self p
    go true false c d e f = alike_self p
    go true true true d e f =
        let w = sent-status p (outstanding-sent p e) in
        sent-alike p (record { status = p.status; misses = p.misses + 1; chunk = p.chunk }) (outstanding-sent p e) w.0 w.1 refl (λ h. omega (arith, ltb-true p.misses 2 f))
    go true true false true e f = sent-alike p (record { status = 3; misses = 3; chunk = p.chunk }) (outstanding-sent p e) (omega arith) (omega arith) refl (λ h. omega arith)
    go true true false false e f = alike_self p

-- a SACK: what was not sent stays; what was is freed at or below the point, and stays sent above it
pub settled-unsent : (k : Sack) (p : Place) → is_sent p ≡ false → place_settled k p ≡ p
unfolding place_settled
settled-unsent k p e = rw e

pub settled-freed : (k : Sack) (p : Place) → is_sent p ≡ true → place_offset k.point p < 1 → place_settled k p ≡ being p 0
unfolding place_settled
settled-freed k p e h = rw (e, lt-ltb (place_offset k.point p) 1 h)

pub settled-alike : (k : Sack) (p : Place) → is_sent p ≡ true → 0 < place_offset k.point p → PlaceAlike p (place_settled k p)
unfolding place_settled
settled-alike k p e h = rw (e, le-ltb (place_offset k.point p) 1 h) (go (is_blocked k.blocks (place_offset k.point p)) (eqb p.status 4) k.whole)
  where
    go : (a b c : Bool) → PlaceAlike p (pick a (being p 4) (pick b (pick c (being p 2) p) p))
    go true b c = sent-alike p (being p 4) e (omega arith) (omega arith) refl (λ m. m)
    go false true true = sent-alike p (being p 2) e (omega arith) (omega arith) refl (λ m. m)
    go false true false = alike_self p
    go false false c = alike_self p

pub taken_places : (k : Sack) (from : Tsn) (ps : List Place) → (sack_taken_in k from ps).places ≡ map (place_settled k) ps
unfolding sack_taken_in
taken_places k from ps = refl

pub missed-places : (from : Tsn) (limit : ℕ) (ps : List Place) → (missed_all from limit ps).places ≡ map (missed from limit) ps
unfolding missed_all
missed-places from limit ps = refl
