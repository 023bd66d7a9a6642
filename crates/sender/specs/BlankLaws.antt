-- The pass that looks at every place: over places side by side that are free and have no misses, and a place by its status. Assumes nothing.
use Rattle.std.specs.Prelude.{ℕ, zero, suc, ◌+◌, ◌-◌, ◌<◌, ◌≤◌, ◌≡◌, refl, Bool, true, false, not, List, [], ◌∷◌, take, set, get_or, replicate, eqb, ltb}
use Rattle.std.proofs.Common.{sym, ap, ◌∙◌, subst, arith, le-ltb, eq-eqb, ne_eqb, ltb-false, eqb-true, take_all}
use Rattle.std.proofs.lemmas.List.{length-replicate}
use mir.Val.{bool_byte}
use Rattle.numbers.specs.declared.circle.Tsn.{Tsn}
use Rattle.numbers.specs.Profile.{Profile}
use Rattle.scans.specs.Scan.{pick, either, Folding}
use Rattle.scans.specs.Upto.{any_upto, upto-start, upto-one, upto-end}
use Rattle.scans.specs.Each.{clash, after-so, pick-self}
use Rattle.places.specs.declared.place.Place.{Place}
use Rattle.places.specs.Places.{has_status, is_sent, weight_of, flight_of, place_offset}
use Rattle.places.specs.PlacesLaws.{flight-flying, flight-other, status-sent, unsent}
use Rattle.sending.specs.Sending.{no_place}
use Rattle.sending.specs.SendingBounds.{is_place_odd, key_of, spot_of}
use Rattle.sending.specs.SendingBoundsLaws.{spot-none, noting}
use Rattle.sending.specs.SurveyLaws.{Surveyed, Surveying, survey-start, survey-free, survey-more, survey-end}
use Rattle.tables.specs.PlaceWords.{places_of, place_at}
use Rattle.tables.specs.PlaceWordsLaws.{places-long}
use Rattle.sender.specs.Seen.{is_blank, blank_for}

-- one, and one more
pub blank-two : (P : Profile) (ws : List ℕ) (i : ℕ) → blank_for P ws i 2 ≡ pick (is_blank (place_at P ws i)) (is_blank (place_at P ws (i + 1))) false
blank-two P ws i = ap (λ (b : Bool). pick (is_blank (place_at P ws i)) b false) (go (is_blank (place_at P ws (i + 1))))
  where
    go : (b : Bool) → pick b true false ≡ b
    go true = refl
    go false = refl

-- so many, and so many more
pub blank-add : (P : Profile) (ws : List ℕ) (a i b : ℕ) → blank_for P ws i (a + b) ≡ pick (blank_for P ws i a) (blank_for P ws (i + a) b) false
blank-add P ws zero i b =
    let z : 0 + b ≡ b = omega arith in
    let y : i + 0 ≡ i = omega arith in
    rw (z, y)
blank-add P ws (suc a) i b = let z : suc a + b ≡ suc (a + b) = omega arith in rw z (go (blank-add P ws a (i + 1) b) (is_blank (place_at P ws i)))
  where
    go : blank_for P ws (i + 1) (a + b) ≡ pick (blank_for P ws (i + 1) a) (blank_for P ws (i + 1 + a) b) false → (u : Bool)
        → pick u (blank_for P ws (i + 1) (a + b)) false ≡ pick (pick u (blank_for P ws (i + 1) a) false) (blank_for P ws (i + suc a) b) false
    go e true = e ∙ ap (λ (k : ℕ). pick (blank_for P ws (i + 1) a) (blank_for P ws k b) false) (omega arith)
    go e false = refl

-- a pass that has come to j of the places before e
module _ (P : Profile) (ws : List ℕ) (j e : ℕ) {r : Bool} (w : blank_for P ws j (e - j) ≡ r) where
  pub blank_next : j < e → is_blank (place_at P ws j) ≡ true → blank_for P ws (j + 1) (e - (j + 1)) ≡ r
  blank_next h t = rw t at (upto-one (blank_for P ws j) e j w h)

  pub blank-stop : j < e → is_blank (place_at P ws j) ≡ false → false ≡ r
  blank-stop h t = rw t at (upto-one (blank_for P ws j) e j w h)

  pub blank-done : e ≤ j → true ≡ r
  blank-done h = upto-end (blank_for P ws j) e j w h

-- what the test of eight says
pub blank-eight : (P : Profile) (ws : List ℕ) (i : ℕ) {y : Bool} → y ≡ pick (ltb 120 i) false (blank_for P ws i 8) → y ≡ true → (i ≤ 120) × (blank_for P ws i 8 ≡ true)
blank-eight P ws i e t = go (ltb 120 i) refl (sym e ∙ t)
  where
    go : (b : Bool) → ltb 120 i ≡ b → pick b false (blank_for P ws i 8) ≡ true → (i ≤ 120) × (blank_for P ws i 8 ≡ true)
    go true q x = clash x
    go false q x = (ltb-false 120 i q, x)

-- such a place is free and not odd
blank-free : (p : Place) → is_blank p ≡ true → (p.status ≡ 0) × (p.misses ≡ 0)
blank-free p e = let f = after-so (eqb p.status 0) (eqb p.misses 0) e in (eqb-true p.status 0 f.0, eqb-true p.misses 0 f.1)

blank-even : (P : Profile) (p : Place) → is_blank p ≡ true → is_place_odd P p ≡ false
unfolding is_place_odd
blank-even P p e = let f = blank-free p e in rw (f.0, f.1)

-- the pass goes over them
pub survey-blank : (P : Profile) (ws : List ℕ) {acked : Tsn} {oldest i f : ℕ} {o : Bool} {s t : ℕ} {a b : List Bool} (n : ℕ) → Surveying P acked oldest (places_of P ws) i f o s t a b
    → i + n ≤ P.places → blank_for P ws i n ≡ true → Surveying P acked oldest (places_of P ws) (i + n) f o s t a b
survey-blank P ws {acked} {oldest} {i} {f} {o} {s} {t} {a} {b} zero w l e =
    let z : i ≡ i + 0 = omega arith in subst (λ (k : ℕ). Surveying P acked oldest (places_of P ws) k f o s t a b) z w
survey-blank P ws {acked} {oldest} {i} {f} {o} {s} {t} {a} {b} (suc n) w l e =
    let q = after-so (is_blank (place_at P ws i)) (blank_for P ws (i + 1) n) e in
    let z : i + 1 + n ≡ i + suc n = omega arith in
    let r : o ≡ either o (is_place_odd P (place_at P ws i)) = sym (ap (either o) (blank-even P (place_at P ws i) q.0) ∙ pick-self o) in
    subst (λ (k : ℕ). Surveying P acked oldest (places_of P ws) k f o s t a b) z
    (survey-blank P ws {i = i + 1} n (survey-free w (omega arith) (blank-free (place_at P ws i) q.0).0 r) (omega arith) q.1)

-- eight more behind those from the first on
pub blank-more : (P : Profile) (ws : List ℕ) (n : ℕ) → blank_for P ws 0 n ≡ true → blank_for P ws n 8 ≡ true → blank_for P ws 0 (n + 8) ≡ true
blank-more P ws n e f =
    let z : 0 + n ≡ n = omega arith in
    rw (blank-add P ws n 0 8, e, z) f

-- the pass begins behind them
pub survey-first : (P : Profile) (ws : List ℕ) (acked : Tsn) (oldest : ℕ) (seen : List Bool) (n : ℕ) → take P.places seen ≡ replicate P.places false → n ≤ P.places
    → blank_for P ws 0 n ≡ true → Surveying P acked oldest (places_of P ws) n 0 false 0 0 seen seen
survey-first P ws acked oldest seen n q l e =
    let z : 0 + n ≡ n = omega arith in
    rw z at (survey-blank P ws n (survey-start P acked oldest (places_of P ws) seen (places-long P ws) q) (omega arith) e)

-- what it would find where all are
pub survey-none : (P : Profile) (ws : List ℕ) (acked : Tsn) (oldest n : ℕ) → P.places ≤ n → n ≤ P.places → blank_for P ws 0 n ≡ true
    → Surveyed P acked oldest (places_of P ws) (record { flight = 0; odd = false; sent = 0; waiting = 0; seen_sent = replicate P.places false; seen_waiting = replicate P.places false })
survey-none P ws acked oldest n a b e = survey-end (survey-first P ws acked oldest (replicate P.places false) n (take_all P.places (replicate P.places false) (omega (arith, length-replicate P.places false))) b e) a

-- nothing is sent: the next number follows our point
pub next-follows : (d : ℕ) (f : ℕ → Bool) (b : Bool) → f 0 ≡ false → b ≡ true → eqb d 1 ≡ pick (ltb d 1) false (pick (pick (eqb 0 (d - 1)) (not (f (d - 1))) false) b false)
next-follows zero f b e g = refl
next-follows (suc zero) f b e g = rw (e, g)
next-follows (suc (suc d)) f b e g = rw (ne_eqb (suc (suc d)) 1 (λ q. omega arith), le-ltb (suc (suc d)) 1 (omega arith), ne_eqb 0 (suc (suc d) - 1) (λ q. omega arith))

-- ---- a place by its status

take_past : {A : Type 0} (l : List A) (n j : ℕ) (v : A) → n ≤ j → take n (set l j v) ≡ take n l
take_past l zero j v h = refl
take_past [] (suc n) j v h = refl
take_past (x ∷ l) (suc n) zero v h = absurd (omega arith)
take_past {A} (x ∷ l) (suc n) (suc j) v h = ap (λ (r : List A). x ∷ r) (take_past l n j v (omega arith))

flying-flight : (p : Place) → p.status ≡ 2 → weight_of p ≡ flight_of p
flying-flight p e = sym (flight-flying p (eq-eqb p.status 2 e))

flying-sent : (p : Place) → p.status ≡ 2 → is_sent p ≡ true
flying-sent p e = status-sent p (omega arith) (omega arith)

sent-key : (acked : Tsn) (oldest : ℕ) (p : Place) → is_sent p ≡ true → place_offset acked p ≡ key_of true acked oldest p
unfolding key_of
sent-key acked oldest p e = rw e

waiting-key : (acked : Tsn) (oldest : ℕ) (p : Place) → p.status ≡ 1 → key_of true acked oldest p ≡ 0
unfolding key_of
waiting-key acked oldest p e = rw (unsent p (omega arith))

other_key : (acked : Tsn) (oldest : ℕ) (p : Place) → (p.status ≡ 1 → ⊥) → key_of false acked oldest p ≡ 0
unfolding key_of
other_key acked oldest p e = rw (ne_eqb p.status 1 e)

-- a note at the spot of no number is none
unnoted : {P : Profile} {acked : Tsn} {oldest : ℕ} {ps : List Place} {i f : ℕ} {o : Bool} {s t : ℕ} {a b : List Bool} → Surveying P acked oldest ps i f o s t (set a P.places true) b
    → Surveying P acked oldest ps i f o s t a b
unnoted {P} {acked} {oldest} {ps} {i} {f} {o} {s} {t} {a} {b} w = record {
  flight = w.flight;
  odd = w.odd;
  sent = w.sent;
  waiting = w.waiting;
  numbers = subst (λ (l : List Bool). Folding (noting P true acked oldest) (replicate P.places false) ps P.places i l) (take_past a P.places P.places true (omega arith)) w.numbers;
  orders = w.orders;
}

unordered : {P : Profile} {acked : Tsn} {oldest : ℕ} {ps : List Place} {i f : ℕ} {o : Bool} {s t : ℕ} {a b : List Bool} → Surveying P acked oldest ps i f o s t a (set b P.places true)
    → Surveying P acked oldest ps i f o s t a b
unordered {P} {acked} {oldest} {ps} {i} {f} {o} {s} {t} {a} {b} w = record {
  flight = w.flight;
  odd = w.odd;
  sent = w.sent;
  waiting = w.waiting;
  numbers = w.numbers;
  orders = subst (λ (l : List Bool). Folding (noting P false acked oldest) (replicate P.places false) ps P.places i l) (take_past b P.places P.places true (omega arith)) w.orders;
}

module _ {P : Profile} {acked : Tsn} {oldest : ℕ} {ps : List Place} {i flight : ℕ} {odd : Bool} {sent waiting : ℕ} {numbers orders : List Bool}
    (w : Surveying P acked oldest ps i flight odd sent waiting numbers orders) (h : i < P.places) (p : Place) (e : p ≡ get_or ps i no_place) {o : Bool} (eo : o ≡ either odd (is_place_odd P p)) where
  as_read : o ≡ either odd (is_place_odd P (get_or ps i no_place))
  as_read = eo ∙ ap (λ (q : Place). either odd (is_place_odd P q)) e

  -- it does not wait
  sends : (p.status ≡ 1 → ⊥) → {f : ℕ} → f ≡ flight_of p → f ≤ 65551 → {s : Bool} → s ≡ is_sent p → {j : ℕ} → j ≡ spot_of P (key_of true acked oldest p)
      → Surveying P acked oldest ps (i + 1) (flight + f) o (sent + bool_byte s) waiting (set numbers j true) orders
  sends n ef lf es ej =
      let z : waiting + 0 ≡ waiting = omega arith in
      let k : P.places ≡ spot_of P (key_of false acked oldest (get_or ps i no_place)) = sym (ap (spot_of P) (ap (key_of false acked oldest) (sym e) ∙ other_key acked oldest p n) ∙ spot-none P 0 (omega arith)) in
      rw z at (unordered {b = orders} (survey-more w h (ef ∙ ap flight_of e) lf as_read (es ∙ ap is_sent e) {t = false} (sym (ap (has_status 1) (sym e) ∙ ne_eqb p.status 1 n)) (ej ∙ ap (λ (q : Place). spot_of P (key_of true acked oldest q)) e) k))

  pub survey-flying : p.status ≡ 2 → {f : ℕ} → f ≡ weight_of p → f ≤ 65551 → {j : ℕ} → j ≡ spot_of P (place_offset acked p)
      → Surveying P acked oldest ps (i + 1) (flight + f) o (sent + 1) waiting (set numbers j true) orders
  survey-flying s ef lf ej =
      sends (λ q. omega arith) (ef ∙ flying-flight p s) lf {s = true} (sym (flying-sent p s)) (ej ∙ ap (spot_of P) (sent-key acked oldest p (flying-sent p s)))

  -- one that neither waits nor counts in flight
  pub survey-apart : (p.status ≡ 2 → ⊥) → (p.status ≡ 1 → ⊥) → {s : Bool} → s ≡ is_sent p → {j : ℕ} → j ≡ spot_of P (key_of true acked oldest p)
      → Surveying P acked oldest ps (i + 1) flight o (sent + bool_byte s) waiting (set numbers j true) orders
  survey-apart m n es ej =
      let z : flight + 0 ≡ flight = omega arith in
      rw z at (sends n {f = 0} (sym (flight-other p (ne_eqb p.status 2 m))) (omega arith) es ej)

  pub survey-waiting-one : p.status ≡ 1 → {k : ℕ} → k ≡ spot_of P (key_of false acked oldest p) → Surveying P acked oldest ps (i + 1) flight o sent (waiting + 1) numbers (set orders k true)
  survey-waiting-one s ek =
      let y : flight + 0 ≡ flight = omega arith in
      let z : sent + 0 ≡ sent = omega arith in
      let j : P.places ≡ spot_of P (key_of true acked oldest (get_or ps i no_place)) = sym (ap (spot_of P) (ap (key_of true acked oldest) (sym e) ∙ waiting-key acked oldest p s) ∙ spot-none P 0 (omega arith)) in
      rw (y, z) at (unnoted {a = numbers} (survey-more w h {f = 0} (sym (ap flight_of (sym e) ∙ flight-other p (ne_eqb p.status 2 (λ q. omega arith)))) (omega arith) as_read {s = false} (sym (ap is_sent (sym e) ∙ unsent p (omega arith))) {t = true} (sym (ap (has_status 1) (sym e) ∙ eq-eqb p.status 1 s)) j (ek ∙ ap (λ (q : Place). spot_of P (key_of false acked oldest q)) e)))

-- ---- a loop that asks of every number up to n, and does not end early

pub record Gapping (p : ℕ → Bool) (n i : ℕ) (gap : Bool) : Type 0 where
  pub within : i ≤ n
  pub rest : either gap (any_upto p i (n - i)) ≡ any_upto p 0 n

pub gap-start : (p : ℕ → Bool) (n : ℕ) → Gapping p n 0 false
gap-start p n = record { within = omega arith; rest = upto-start (any_upto p 0) n refl }

module _ {p : ℕ → Bool} {n i : ℕ} {gap : Bool} (w : Gapping p n i gap) where
  pub gap_more : {v : Bool} → i < n → v ≡ either gap (p i) → Gapping p n (i + 1) v
  gap_more h e = record { within = omega arith; rest = rw e (go gap (p i) (any_upto p (i + 1) (n - (i + 1))) ∙ upto-one (λ (m : ℕ). either gap (any_upto p i m)) n i w.rest h) }
    where
      go : (a b c : Bool) → either (either a b) c ≡ either a (either b c)
      go true b c = refl
      go false b c = refl

  pub gap-end : n ≤ i → gap ≡ any_upto p 0 n
  gap-end h = sym (pick-self gap) ∙ upto-end (λ (m : ℕ). either gap (any_upto p i m)) n i w.rest h
