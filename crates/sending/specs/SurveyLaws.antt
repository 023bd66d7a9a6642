-- One pass over the places finds all that the bounds ask of them. Assumes nothing.
use Rattle.std.specs.Prelude.{◌≡◌, ℕ, zero, suc, ◌+◌, ◌<◌, ◌≤◌, Bool, true, false, not, List, [], ◌∷◌, length, get_or, take, replicate, ◌==◌, nat_lt, slice_index_or, slice_set, refl}
use Rattle.std.proofs.Common.{sym, ◌∙◌, arith, get_or-take}
use Rattle.std.proofs.Math.Path.{ap}
use borrow.Author.Tests.{le-ltb, ne_eqb, ltb-false, eqb-true}
use mir.Val.{bool_byte}
use Rattle.numbers.specs.declared.circle.Tsn.{Tsn}
use Rattle.numbers.specs.Profile.{Profile}
use Rattle.scans.specs.Scan.{pick, any, count, either, total, Summing, sum_more, sum-end, Asking, ask-more, ask-end, Counting, count_no, count-bit, count-end, Folding, fold_more, fold_end}
use Rattle.scans.specs.Upto.{any_upto}
use Rattle.scans.specs.Each.{if-so}
use Rattle.places.specs.declared.place.Place.{Place}
use Rattle.places.specs.Places.{has_status, is_sent, flight_of, tallied}
use Rattle.places.specs.PlacesLaws.{tallied-flight, flight-other, unsent}
use Rattle.sending.specs.declared.sending.Sending.{Sending}
use Rattle.sending.specs.declared.bounds.Survey.{Survey}
use Rattle.sending.specs.Sending.{no_place}
use Rattle.sending.specs.SendingBounds.{is_place_odd, key_of, spot_of, marked_by, seen_of, is_gap, has_gap, members_of, is_successive}
use Rattle.sending.specs.SendingBoundsLaws.{spot-none, noting}

-- what the pass finds; the last spot of what was seen is no number's
pub record Surveyed (P : Profile) (acked : Tsn) (oldest : ℕ) (ps : List Place) (v : Survey) : Type 0 where
  pub flight : v.flight ≡ total flight_of ps
  pub odd : v.odd ≡ any (is_place_odd P) ps
  pub sent : v.sent ≡ count is_sent ps
  pub waiting : v.waiting ≡ count (has_status 1) ps
  pub few-sent : v.sent ≤ P.places
  pub few-waiting : v.waiting ≤ P.places
  pub numbers : take P.places v.seen_sent ≡ seen_of P true acked oldest ps
  pub orders : take P.places v.seen_waiting ≡ seen_of P false acked oldest ps

-- ---- a store that takes the last spot where there is no place

module _ {A : Type 0} where
  take-set : (l : List A) (n j : ℕ) (v : A) → take n (slice_set l j v) ≡ slice_set (take n l) j v
  take-set [] zero j v = refl
  take-set [] (suc n) j v = refl
  take-set (x ∷ l) zero zero v = refl
  take-set (x ∷ l) zero (suc j) v = refl
  take-set (x ∷ l) (suc n) zero v = refl
  take-set (x ∷ l) (suc n) (suc j) v = ap (λ (r : List A). x ∷ r) (take-set l n j v)

  take_past : (l : List A) (n j : ℕ) (v : A) → n ≤ j → take n (slice_set l j v) ≡ take n l
  take_past l zero j v h = refl
  take_past [] (suc n) j v h = refl
  take_past (x ∷ l) (suc n) zero v h = absurd (omega arith)
  take_past (x ∷ l) (suc n) (suc j) v h = ap (λ (r : List A). x ∷ r) (take_past l n j v (omega arith))

take-marked : (P : Profile) (seen : List Bool) (k : ℕ) → take P.places (slice_set seen (spot_of P k) true) ≡ marked_by P (take P.places seen) k
unfolding marked_by
take-marked P seen k = go (nat_lt (spot_of P k) P.places) refl
  where
    go : (t : Bool) → nat_lt (spot_of P k) P.places ≡ t → take P.places (slice_set seen (spot_of P k) true) ≡ pick t (slice_set (take P.places seen) (spot_of P k) true) (take P.places seen)
    go true q = take-set seen P.places (spot_of P k) true
    go false q = take_past seen P.places (spot_of P k) true (ltb-false (spot_of P k) P.places q)

-- a free place has no number
key-free : (sent : Bool) (acked : Tsn) (oldest : ℕ) (p : Place) → p.status ≡ 0 → key_of sent acked oldest p ≡ 0
unfolding key_of
key-free true acked oldest p e = rw (unsent p (omega arith))
key-free false acked oldest p e = rw (ne_eqb p.status 1 (λ q. omega arith))

noted-free : (P : Profile) (sent : Bool) (acked : Tsn) (oldest : ℕ) (seen : List Bool) (p : Place) → p.status ≡ 0 → seen ≡ marked_by P seen (key_of sent acked oldest p)
unfolding marked_by
noted-free P sent acked oldest seen p e = rw (key-free sent acked oldest p e, spot-none P 0 (omega arith), le-ltb P.places P.places (omega arith))

-- ---- the pass

-- past i of the places
pub record Surveying (P : Profile) (acked : Tsn) (oldest : ℕ) (ps : List Place) (i f : ℕ) (o : Bool) (s t : ℕ) (a b : List Bool) : Type 0 where
  pub flight : Summing flight_of 65551 ps P.places i f
  pub odd : Asking (is_place_odd P) ps P.places i o
  pub sent : Counting is_sent ps P.places i s
  pub waiting : Counting (has_status 1) ps P.places i t
  pub numbers : Folding (noting P true acked oldest) (replicate P.places false) ps P.places i (take P.places a)
  pub orders : Folding (noting P false acked oldest) (replicate P.places false) ps P.places i (take P.places b)

pub survey-start : (P : Profile) (acked : Tsn) (oldest : ℕ) (ps : List Place) (seen : List Bool) → length ps ≡ P.places → take P.places seen ≡ replicate P.places false
    → Surveying P acked oldest ps 0 0 false 0 0 seen seen
survey-start P acked oldest ps seen l e = record {
  flight = record { long = l; within = omega arith; below = omega arith; rest = omega arith };
  odd = record { long = l; rest = refl };
  sent = record { long = l; within = omega arith; below = omega arith; rest = omega arith };
  waiting = record { long = l; within = omega arith; below = omega arith; rest = omega arith };
  numbers = record { long = l; rest = rw e };
  orders = record { long = l; rest = rw e };
}

module _ {P : Profile} {acked : Tsn} {oldest : ℕ} {ps : List Place} {i flight : ℕ} {odd : Bool} {sent waiting : ℕ} {numbers orders : List Bool}
    (w : Surveying P acked oldest ps i flight odd sent waiting numbers orders) where
  pub survey-more : (h : i < P.places) {f : ℕ} → f ≡ flight_of (slice_index_or ps i no_place) → f ≤ 65551 → {o : Bool} → o ≡ either odd (is_place_odd P (slice_index_or ps i no_place))
      → {s : Bool} → s ≡ is_sent (slice_index_or ps i no_place) → {t : Bool} → t ≡ has_status 1 (slice_index_or ps i no_place)
      → {j k : ℕ} → j ≡ spot_of P (key_of true acked oldest (slice_index_or ps i no_place)) → k ≡ spot_of P (key_of false acked oldest (slice_index_or ps i no_place))
      → Surveying P acked oldest ps (i + 1) (flight + f) o (sent + bool_byte s) (waiting + bool_byte t) (slice_set numbers j true) (slice_set orders k true)
  survey-more h {f} ef lf {o} eo es et ej ek = record {
    flight = sum_more w.flight no_place f h ef lf;
    odd = ask-more w.odd no_place o h eo;
    sent = rw es (count-bit w.sent no_place h);
    waiting = rw et (count-bit w.waiting no_place h);
    numbers = rw ej (fold_more w.numbers no_place _ h (take-marked P numbers (key_of true acked oldest (slice_index_or ps i no_place))));
    orders = rw ek (fold_more w.orders no_place _ h (take-marked P orders (key_of false acked oldest (slice_index_or ps i no_place))));
  }

  -- a free place
  pub survey-free : i < P.places → (get_or ps i no_place).status ≡ 0 → {o : Bool} → o ≡ either odd (is_place_odd P (slice_index_or ps i no_place))
      → Surveying P acked oldest ps (i + 1) flight o sent waiting numbers orders
  survey-free h e {o} eo = record {
    flight = let z : flight + 0 ≡ flight = omega arith in rw z at (sum_more w.flight no_place 0 h (sym (flight-other (slice_index_or ps i no_place) (ne_eqb (get_or ps i no_place).status 2 (λ q. omega arith)))) (omega arith));
    odd = ask-more w.odd no_place o h eo;
    sent = count_no w.sent no_place h (unsent (slice_index_or ps i no_place) (omega arith));
    waiting = count_no w.waiting no_place h (ne_eqb (get_or ps i no_place).status 1 (λ q. omega arith));
    numbers = fold_more w.numbers no_place (take P.places numbers) h (noted-free P true acked oldest (take P.places numbers) (slice_index_or ps i no_place) e);
    orders = fold_more w.orders no_place (take P.places orders) h (noted-free P false acked oldest (take P.places orders) (slice_index_or ps i no_place) e);
  }

  pub survey-end : P.places ≤ i
      → Surveyed P acked oldest ps (record { flight = flight; odd = odd; sent = sent; waiting = waiting; seen_sent = numbers; seen_waiting = orders })
  unfolding seen_of
  survey-end h = record {
    flight = sum-end w.flight h;
    odd = ask-end w.odd h;
    sent = count-end w.sent h;
    waiting = count-end w.waiting h;
    few-sent = omega (arith, w.sent.below, w.sent.within);
    few-waiting = omega (arith, w.waiting.below, w.waiting.within);
    numbers = fold_end w.numbers h;
    orders = fold_end w.orders h;
  }

-- ---- what it found answers the test

same-upto : (p q : ℕ → Bool) (i n : ℕ) → ((j : ℕ) → j < i + n → p j ≡ q j) → any_upto p i n ≡ any_upto q i n
same-upto p q i zero f = refl
same-upto p q i (suc n) f =
    ap (λ (t : Bool). pick t true (any_upto p (i + 1) n)) (f i (omega arith))
    ∙ ap (λ (t : Bool). pick (q i) true t) (same-upto p q (i + 1) n (λ j h. f j (omega arith)))

gap_of : (m : ℕ) (seen : List Bool) (n : ℕ) → n ≤ m → has_gap (take m seen) n ≡ has_gap seen n
unfolding has_gap
gap_of m seen n l = same-upto (is_gap (take m seen)) (is_gap seen) 0 n (λ j h. ap not (get_or-take m seen j false (omega arith)))

module _ (P : Profile) (s : Sending) where
  -- where there are n, n is a place's number
  successive-by : (sent : Bool) (many : ℕ) (seen : List Bool) (n : ℕ) → many ≡ members_of sent s.places → many ≤ P.places
      → take P.places seen ≡ seen_of P sent s.acked s.oldest s.places → is_successive P s sent n ≡ pick (many == n) (not (has_gap seen n)) false
  unfolding is_successive
  successive-by sent many seen n e l f =
      rw (← e, ← f) (if-so false (many == n) (λ q. ap not (gap_of P.places seen n (omega (arith, eqb-true many n q)))))

  module _ {v : Survey} (w : Surveyed P s.acked s.oldest s.places v) where
    pub survey-flight : (tallied s.acked s.places).flight ≡ v.flight
    survey-flight = tallied-flight s.acked s.places ∙ sym w.flight

    pub survey-sent : (n : ℕ) → is_successive P s true n ≡ pick (v.sent == n) (not (has_gap v.seen_sent n)) false
    survey-sent n = successive-by true v.sent v.seen_sent n w.sent w.few-sent w.numbers

    pub survey-waiting : is_successive P s false (count (has_status 1) s.places) ≡ pick (v.waiting == v.waiting) (not (has_gap v.seen_waiting v.waiting)) false
    survey-waiting = rw (← w.waiting) (successive-by false v.waiting v.seen_waiting v.waiting w.waiting w.few-waiting w.orders)
