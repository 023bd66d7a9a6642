-- Loops that give places another state, their chunks kept: the words, and that they show the places replaced. Assumes nothing.
use Rattle.std.specs.Prelude.{ℕ, zero, suc, ◌+◌, ◌-◌, ◌*◌, ◌<◌, ◌≤◌, ◌≡◌, Bool, true, false, List, map, length, set}
use Rattle.std.proofs.Math.Path.{refl}
use Rattle.std.proofs.Common.{sym, ap, ◌∙◌, subst, arith}
use Rattle.numbers.specs.Profile.{Profile}
use Rattle.scans.specs.Scan.{pick, Mapping, map_more, map-end}
use Rattle.places.specs.declared.place.Place.{Place}
use Rattle.places.specs.PassLaws.{Restated}
use Rattle.tables.specs.PlaceWords.{place_in, places_of, vacant, place_at, state_put}
use Rattle.tables.specs.PlaceWordsLaws.{place-small, places-long, place-in, state-other, state-put, state-long, put_same}

-- the place i: one that `idle` names stays, each other has the state that f gives it
abbrev pub state_one : Profile → (Place → Bool) → (Place → Place) → List ℕ → ℕ → List ℕ
state_one P idle f ws i = pick (idle (place_at P ws i)) ws (state_put P ws i (f (place_at P ws i)))

-- n places, from the place i on
abbrev pub state_from : Profile → (Place → Bool) → (Place → Place) → ℕ → ℕ → List ℕ → List ℕ
state_from P idle f i zero ws = ws
state_from P idle f i (suc n) ws = state_from P idle f (i + 1) n (state_one P idle f ws i)

-- every place
unfoldable pub states_by : Profile → (Place → Bool) → (Place → Place) → List ℕ → List ℕ
states_by P idle f ws = state_from P idle f 0 P.places ws

-- f gives another state and nothing else, and would leave what is idle as it is
pub record Marks (idle : Place → Bool) (f : Place → Place) : Type 0 where
  pub restated : (p : Place) → Restated p (f p)
  pub same : (p : Place) → idle p ≡ true → f p ≡ p

-- the loop, past i of the places: what is left to do, and that the places ahead are as they were. It asks no length.
pub record Stating (P : Profile) (idle : Place → Bool) (f : Place → Place) (ws : List ℕ) (i : ℕ) (now : List ℕ) : Type 0 where
  pub within : i ≤ P.places
  pub rest : state_from P idle f i (P.places - i) now ≡ states_by P idle f ws
  pub later : (j : ℕ) → i ≤ j → place_in now j ≡ place_in ws j

pub state-start : (P : Profile) (idle : Place → Bool) (f : Place → Place) (ws : List ℕ) → Stating P idle f ws 0 ws
unfolding states_by
state-start P idle f ws = record {
  within = omega arith;
  rest = let e : P.places - 0 ≡ P.places = omega arith in ap (λ (n : ℕ). state_from P idle f 0 n ws) e;
  later = λ j h. refl;
}

module _ {P : Profile} {idle : Place → Bool} {f : Place → Place} {ws : List ℕ} {i : ℕ} {now : List ℕ} (w : Stating P idle f ws i now) where
  -- the place that is next is as it was
  pub state-next : i < P.places → place_at P now i ≡ place_at P ws i
  state-next h = sym (place-in P now i h) ∙ (w.later i (omega arith) ∙ place-in P ws i h)

  left : i < P.places → state_from P idle f i (suc (P.places - (i + 1))) now ≡ states_by P idle f ws
  left h = let e : P.places - i ≡ suc (P.places - (i + 1)) = omega (arith, w.within) in ap (λ (n : ℕ). state_from P idle f i n now) (sym e) ∙ w.rest

  step : i < P.places → (t : Bool) → idle (place_at P now i) ≡ t
      → state_from P idle f (i + 1) (P.places - (i + 1)) (pick t now (state_put P now i (f (place_at P now i)))) ≡ states_by P idle f ws
  step h t e =
      subst (λ (b : Bool). state_from P idle f (i + 1) (P.places - (i + 1)) (pick b now (state_put P now i (f (place_at P now i)))) ≡ states_by P idle f ws) e (left h)

  pub state-more : {then : List ℕ} {p : Place} → i < P.places → idle (place_at P now i) ≡ false → p ≡ f (place_at P now i) → then ≡ state_put P now i p → Stating P idle f ws (i + 1) then
  state-more {then} {p} h s e q = record {
    within = omega arith;
    rest = rw (q, e) (step h false s);
    later = λ j l. ap (λ (v : List ℕ). place_in v j) q ∙ (state-other P now i p j (λ x. absurd (omega arith)) ∙ w.later j (omega arith));
  }

  pub state-skip : i < P.places → idle (place_at P now i) ≡ true → Stating P idle f ws (i + 1) now
  state-skip h s = record {
    within = omega arith;
    rest = step h true s;
    later = λ j l. w.later j (omega arith);
  }

  pub state-end : P.places ≤ i → now ≡ states_by P idle f ws
  state-end l = let k : P.places - i ≡ 0 = omega arith in ap (λ (n : ℕ). state_from P idle f i n now) (sym k) ∙ w.rest

-- ---- what the words show

module _ (P : Profile) (idle : Place → Bool) (f : Place → Place) where
  one-long : (ws : List ℕ) (i : ℕ) → length (state_one P idle f ws i) ≡ length ws
  one-long ws i = go (idle (place_at P ws i))
    where
      go : (t : Bool) → length (pick t ws (state_put P ws i (f (place_at P ws i)))) ≡ length ws
      go true = refl
      go false = state-long P ws i (f (place_at P ws i))

  from-long : (n i : ℕ) (ws : List ℕ) → length (state_from P idle f i n ws) ≡ length ws
  from-long zero i ws = refl
  from-long (suc n) i ws = from-long n (i + 1) (state_one P idle f ws i) ∙ one-long ws i

  pub states-long : (ws : List ℕ) → length (states_by P idle f ws) ≡ length ws
  unfolding states_by
  states-long ws = from-long P.places 0 ws

  module _ (m : Marks idle f) where
    one-shows : (ws : List ℕ) (i : ℕ) → 8 * P.places ≤ length ws → i < P.places → places_of P (state_one P idle f ws i) ≡ set (places_of P ws) i (f (place_at P ws i))
    one-shows ws i l h = go (idle (place_at P ws i)) refl
      where
        go : (t : Bool) → idle (place_at P ws i) ≡ t → places_of P (pick t ws (state_put P ws i (f (place_at P ws i)))) ≡ set (places_of P ws) i (f (place_at P ws i))
        go true e = sym (ap (λ (p : Place). set (places_of P ws) i p) (m.same (place_at P ws i) e) ∙ put_same (places_of P ws) i)
        go false e =
            let p = place_at P ws i in
            let s = place-small P ws i in
            let r = m.restated (place_at P ws i) in
            state-put P ws i (f p) l h (r.status s.status) (r.misses s.misses) r.chunk

    module _ (ws : List ℕ) (l : 8 * P.places ≤ length ws) where
      shows : (n i : ℕ) (now : List ℕ) → i + n ≡ P.places → length now ≡ length ws → Mapping f (places_of P ws) P.places i (places_of P now)
          → Mapping f (places_of P ws) P.places P.places (places_of P (state_from P idle f i n now))
      shows zero i now e k w = let q : i ≡ P.places = omega arith in subst (λ (j : ℕ). Mapping f (places_of P ws) P.places j (places_of P now)) q w
      shows (suc n) i now e k w =
          let h : i < P.places = omega arith in
          shows n (i + 1) (state_one P idle f now i) (omega arith) (one-long now i ∙ k)
          (subst (Mapping f (places_of P ws) P.places (i + 1)) (sym (one-shows now i (omega (arith, k)) h)) (map_more w vacant (f (place_at P now i)) h refl))

      pub states-show : places_of P (states_by P idle f ws) ≡ map f (places_of P ws)
      unfolding states_by
      states-show = map-end (shows P.places 0 ws (omega arith) refl (record { long = places-long P ws; so_far = refl })) (omega arith)
