-- What a packet marks as sent is what it chose, and nothing else: every place chosen was marked for resending or waited, and is outstanding then; every other place
-- is as it was. Assumes nothing.
use Rattle.std.specs.Prelude.{◌≡◌, ℕ, zero, suc, ◌+◌, ◌<◌, Bool, true, false, List, [], ◌∷◌, length, get_or, ◌==◌, ◌≢◌, slice_index, slice_index_or, slice_set, refl}
use Rattle.std.proofs.Common.{sym, ap, subst, ◌∙◌, ⊎_elim, arith, length-set, get_or-set_same, get_or-set_other}
use Rattle.std.proofs.Math.Decide.{dec_lt, ℕ_discrete}
use Rattle.std.proofs.lemmas.List.{length-replicate}
use Rattle.numbers.specs.Profile.{Profile}
use Rattle.scans.specs.Scan.{pick}
use Rattle.scans.specs.Upto.{run_while, pick-keeps}
use Rattle.path.specs.Sizes.{Sizes}
use Rattle.places.specs.declared.place.Place.{Place}
use Rattle.places.specs.Places.{being}
use Rattle.sending.specs.declared.sending.Sending.{Sending}
use Rattle.sending.specs.declared.choosing.Chosen.{Chosen}
use Rattle.sending.specs.Sending.{no_place}
use Rattle.sending.specs.Choose.{put, again, first_sent, flying, sent, going, filling, fill_begun, packet_filled}
use Rattle.sending.specs.ChooseLaws.{PlaceReady, going-ready}

-- the place that was chosen as the k-th
abbrev pub chosen_at : Chosen → ℕ → ℕ
chosen_at f k = slice_index f.places k

-- of the places of s, f marks those that it chose as sent, and no other
pub record PlacesMarked (s : Sending) (f : Chosen) : Type 0 where
  pub ready : (k : ℕ) → k < f.count → PlaceReady (slice_index_or s.places (chosen_at f k) no_place)
  pub sent : (k : ℕ) → k < f.count → (get_or f.sending.places (chosen_at f k) no_place).status ≡ 2
  pub others : (j : ℕ) → ((k : ℕ) → k < f.count → chosen_at f k ≢ j) → slice_index_or f.sending.places j no_place ≡ slice_index_or s.places j no_place

-- ---- one place

within : (ps : List Place) (i : ℕ) → PlaceReady (slice_index_or ps i no_place) → i < length ps
within [] i r = ⊎_elim (λ (e : ◌≡◌ {A = ℕ} 0 3). absurd (omega (arith, e))) (λ (e : ◌≡◌ {A = ℕ} 0 1). absurd (omega (arith, e))) r
within (p ∷ ps) zero r = omega arith
within (p ∷ ps) (suc i) r = omega (arith, within ps i r)

not-sent : (p : Place) → PlaceReady p → p.status ≢ 2
not-sent p r e = ⊎_elim (λ (q : p.status ≡ 3). absurd (omega (arith, q, e))) (λ (q : p.status ≡ 1). absurd (omega (arith, q, e))) r

-- the place i outstanding, and every other as it was
record Sends (ps qs : List Place) (i : ℕ) : Type 0 where
  pub one : (get_or qs i no_place).status ≡ 2
  pub rest : (j : ℕ) → (j ≢ i) → slice_index_or qs j no_place ≡ slice_index_or ps j no_place

set-sends : (ps : List Place) (i : ℕ) (q : Place) → i < length ps → q.status ≡ 2 → Sends ps (slice_set ps i q) i
set-sends ps i q l e = record { one = ap (λ (p : Place). p.status) (get_or-set_same ps i q no_place l) ∙ e; rest = λ j n. get_or-set_other ps i j q no_place n }

sent-sends : (P : Profile) (s : Sending) (i : ℕ) → i < length s.places → Sends s.places (sent P s i (slice_index_or s.places i no_place)).places i
unfolding sent again first_sent put
sent-sends P s i l =
    pick-keeps (λ (r : Sending). Sends s.places r.places i) ((get_or s.places i no_place).status == 3) _ _
    (set-sends s.places i (being (slice_index_or s.places i no_place) 2) l refl)
    (set-sends s.places i (flying P s (slice_index_or s.places i no_place)) l refl)

-- ---- the packet

-- with room in the list for m more
record Marking (s : Sending) (m : ℕ) (f : Chosen) : Type 0 where
  pub room : f.count + m ≡ length f.places
  pub marks : PlacesMarked s f

step-marks : (P : Profile) (s : Sending) (m : ℕ) (f : Chosen) → (going f).go ≡ true → Marking s (suc m) f → Marking s m (filling P f (going f).place)
unfolding filling
step-marks P s m f g w =
    let i : ℕ = (going f).place in
    let ps : List Place = f.sending.places in
    let r : PlaceReady (slice_index_or ps i no_place) = going-ready f g in
    let v : Sends ps (sent P f.sending i (slice_index_or ps i no_place)).places i = sent-sends P f.sending i (within ps i r) in
    let l : f.count < length f.places = omega (arith, w.room) in
    let last : get_or (slice_set f.places f.count i) f.count 0 ≡ i = get_or-set_same f.places f.count i 0 l in
    let early : (k : ℕ) → k < f.count → slice_index (slice_set f.places f.count i) k ≡ chosen_at f k = λ k h. get_or-set_other f.places f.count k i 0 (λ e. absurd (omega (arith, e, h))) in
    let was : get_or ps i no_place ≡ get_or s.places i no_place = w.marks.others i (λ k h e. not-sent (slice_index_or ps i no_place) r (subst (λ (x : ℕ). (get_or ps x no_place).status ≡ 2) e (w.marks.sent k h))) in
    record {
      room = omega (arith, w.room, length-set f.places f.count i);
      marks = record {
        ready = λ k h. by k h (λ (x : ℕ). PlaceReady (slice_index_or s.places x no_place)) early last (λ q. w.marks.ready k q) (subst PlaceReady was r);
        sent = λ k h. by k h (λ (x : ℕ). (get_or (sent P f.sending i (slice_index_or ps i no_place)).places x no_place).status ≡ 2) early last (λ q. still v (chosen_at f k) (w.marks.sent k q)) v.one;
        others = λ j n. v.rest j (λ e. n f.count (omega arith) (last ∙ sym e)) ∙ w.marks.others j (λ k h e. n k (omega (arith, h)) (early k h ∙ e));
      };
    }
  where
    -- one of those before, or the last
    by : (k : ℕ) → k < f.count + 1 → (Q : ℕ → Type 0) → {x : ℕ → ℕ} → ((j : ℕ) → j < f.count → x j ≡ chosen_at f j) → x f.count ≡ (going f).place → (k < f.count → Q (chosen_at f k)) → Q (going f).place → Q (x k)
    by k h Q {x} e d a b = go (dec_lt k f.count)
      where
        go : Dec (k < f.count) → Q (x k)
        go (yes l) = subst Q (sym (e k l)) (a l)
        go (no l) = let c : k ≡ f.count = omega (arith, h) in subst Q (sym (ap x c ∙ d)) b

    -- outstanding stays so
    still : {ps qs : List Place} {i : ℕ} → Sends ps qs i → (j : ℕ) → (get_or ps j no_place).status ≡ 2 → (get_or qs j no_place).status ≡ 2
    still {ps} {qs} {i} v j e = go (ℕ_discrete j i)
      where
        go : Dec (j ≡ i) → (get_or qs j no_place).status ≡ 2
        go (yes q) = subst (λ (x : ℕ). (get_or qs x no_place).status ≡ 2) (sym q) v.one
        go (no q) = ap (λ (p : Place). p.status) (v.rest j q) ∙ e

-- what each step keeps with one less to come holds at the end
run_down : {F : Type 0} (I : ℕ → F → Type 0) (Q : F → Type 0) (go : F → Bool) (step : F → F) → ((m : ℕ) (f : F) → go f ≡ true → I (suc m) f → I m (step f)) → ((m : ℕ) (f : F) → I m f → Q f)
    → (n : ℕ) (f : F) → I n f → Q (run_while go step f n)
run_down I Q go step k q zero f h = q zero f h
run_down I Q go step k q (suc n) f h = at (go f) refl (λ e. run_down I Q go step k q n (step f) (k n f e h))
  where
    at : (t : Bool) → go f ≡ t → (go f ≡ true → Q (run_while go step (step f) n)) → Q (pick t (run_while go step (step f) n) f)
    at true e r = r e
    at false e r = q (suc n) f h

begun-marks : (z : Sizes) (s : Sending) → Marking s z.bundled (fill_begun z s)
unfolding fill_begun
begun-marks z s = record {
  room = omega (arith, length-replicate {A = ℕ} z.bundled 0);
  marks = record { ready = λ k h. absurd (omega (arith, h)); sent = λ k h. absurd (omega (arith, h)); others = λ j n. refl };
}

-- whatever the record
pub filled-marks : (z : Sizes) (P : Profile) (s : Sending) → PlacesMarked s (packet_filled z P s)
unfolding packet_filled
filled-marks z P s = run_down (Marking s) (PlacesMarked s) (λ f. (going f).go) (λ f. filling P f (going f).place) (step-marks P s) (λ m f w. w.marks) z.bundled (fill_begun z s) (begun-marks z s)
