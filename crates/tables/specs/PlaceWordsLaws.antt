-- Laws of a table of places: how many it has, the place that stands at i, its bounds, and the places after one is put. Assumes nothing.
use Rattle.std.specs.Prelude.{ℕ, zero, suc, ◌+◌, ◌*◌, ◌/◌, ◌%◌, ◌<◌, ◌≤◌, ◌≡◌, refl, Bool, true, false, List, [], ◌∷◌, length, set, get_or, eqb, ltb}
use Rattle.std.proofs.Common.{sym, ap, ◌∙◌, arith, lt-ltb, le-ltb, length-set, get_or-set_same, get_or-set_other}
use Rattle.std.proofs.Math.Decide.{dec_lt}
use Rattle.std.proofs.Math.ListN.{get_or-eq_default}
use Rattle.std.proofs.Math.Seq.{set_out}
use mir.Val.{bool_byte as bit}
use Rattle.scans.specs.Scan.{bit_le, pick}
use Rattle.numbers.specs.Profile.{Profile}
use Rattle.octets.specs.Bytes.{laid}
use Rattle.octets.specs.BytesLaws.{laid_one, length-laid}
use Rattle.places.specs.declared.place.Place.{Place}
use Rattle.tables.specs.WordsLaws.{laid-step, laid-below, laid-above, laid_in, less-or-more, low_bit, shown-long, shown-at, shown-touched}
use Rattle.tables.specs.PlaceWords.{shape_of, state_word, place_words, place_decoded, place_in, places_of, vacant, place_at, place_put, state_put}

-- as many places as the profile has, whatever the words
pub places-long : (P : Profile) (ws : List ℕ) → length (places_of P ws) ≡ P.places
unfolding places_of
places-long P ws = shown-long place_in 0 P.places ws

-- the place i, from its words
pub place-in : (P : Profile) (ws : List ℕ) (i : ℕ) → i < P.places → place_in ws i ≡ place_at P ws i
unfolding places_of
place-in P ws i h = shown-at place_in vacant P.places ws i h

-- past the last place there is none
pub place-past : (P : Profile) (ws : List ℕ) (i : ℕ) → P.places ≤ i → vacant ≡ place_at P ws i
place-past P ws i h = let l : length (places_of P ws) ≤ i = omega (arith, places-long P ws) in sym (get_or-eq_default (places_of P ws) vacant l)

-- words that are all 0 show a free place
pub decoded-none : place_decoded 0 0 0 0 0 0 ≡ vacant
unfolding place_decoded
decoded-none = refl

-- the status alone, from its word
pub status-in : (P : Profile) (ws : List ℕ) (i : ℕ) → i < P.places → get_or ws (8 * i + 5) 0 % 256 ≡ (place_at P ws i).status
unfolding place_decoded
status-in P ws i h = ap (λ (p : Place). p.status) (place-in P ws i h)

-- ---- a place within the bounds of its words

pub record PlaceSmall (p : Place) : Type 0 where
  pub status : p.status < 256
  pub misses : p.misses < 256
  pub tsn : p.chunk.tsn.0 < 4294967296
  pub order : p.chunk.order < 4294967296
  pub stream : p.chunk.stream.0 < 65536
  pub ssn : p.chunk.ssn.0 < 65536
  pub ppid : p.chunk.ppid < 4294967296
  pub len : p.chunk.len < 4096

-- every place that words show is
decoded-small : (a b c d e f : ℕ) → PlaceSmall (place_decoded a b c d e f)
unfolding place_decoded
decoded-small a b c d e f = record {
  status = omega arith;
  misses = omega arith;
  tsn = omega arith;
  order = omega arith;
  stream = omega arith;
  ssn = omega arith;
  ppid = omega arith;
  len = omega arith;
}

pub place-small : (P : Profile) (ws : List ℕ) (i : ℕ) → PlaceSmall (place_at P ws i)
place-small P ws i = go (dec_lt i P.places)
  where
    go : Dec (i < P.places) → PlaceSmall (place_at P ws i)
    go (yes h) =
        rw (← place-in P ws i h) (decoded-small (get_or ws (8 * i) 0) (get_or ws (8 * i + 1) 0) (get_or ws (8 * i + 2) 0) (get_or ws (8 * i + 3) 0) (get_or ws (8 * i + 4) 0) (get_or ws (8 * i + 5) 0))
    go (no h) = rw (← place-past P ws i (omega arith), ← decoded-none) (decoded-small 0 0 0 0 0 0)

-- numbers of a word each are decoded as they are
pub place-decoded-by : (tsn order number ppid shape state : ℕ) → tsn < 4294967296 → order < 4294967296 → ppid < 4294967296 → shape < 4294967296
    → ◌≡◌ {A = Place}
    (record {
      status = state % 256;
      misses = state / 256 % 256;
      chunk = record {
        tsn = record { 0 = tsn };
        order = order;
        stream = record { 0 = shape / 65536 };
        ssn = record { 0 = number % 65536 };
        ppid = ppid;
        len = shape / 16 % 4096;
        begin = eqb (shape % 2) 1;
        end = eqb (shape / 2 % 2) 1;
        unordered = eqb (shape / 4 % 2) 1;
      };
    })
    (place_decoded tsn order number ppid shape state)
unfolding place_decoded
place-decoded-by tsn order number ppid shape state a b c d =
    let q1 : tsn % 4294967296 ≡ tsn = omega arith in
    let q2 : order % 4294967296 ≡ order = omega arith in
    let q3 : ppid % 4294967296 ≡ ppid = omega arith in
    let q4 : shape / 65536 % 65536 ≡ shape / 65536 = omega arith in
    rw (q1, q2, q3, q4)

-- such a place shows what it was put as
decoded-words : (p : Place) → PlaceSmall p → place_decoded p.chunk.tsn.0 p.chunk.order p.chunk.ssn.0 p.chunk.ppid (shape_of p.chunk) (state_word p) ≡ p
unfolding place_decoded
decoded-words p s =
    let b = bit_le p.chunk.begin in
    let e = bit_le p.chunk.end in
    let u = bit_le p.chunk.unordered in
    let q0 : p.chunk.len % 4096 ≡ p.chunk.len = omega (arith, s.len) in
    let q1 : state_word p % 256 ≡ p.status = omega (arith, s.status) in
    let t2 : state_word p / 256 ≡ p.misses = omega (arith, s.status) in
    let u2 : p.misses % 256 ≡ p.misses = omega (arith, s.misses) in
    let q2 : state_word p / 256 % 256 ≡ p.misses = ap (λ (n : ℕ). n % 256) t2 ∙ u2 in
    let t3 : shape_of p.chunk / 65536 ≡ p.chunk.stream.0 = omega (arith, b, e, u) in
    let u3 : p.chunk.stream.0 % 65536 ≡ p.chunk.stream.0 = omega (arith, s.stream) in
    let q3 : shape_of p.chunk / 65536 % 65536 ≡ p.chunk.stream.0 = ap (λ (n : ℕ). n % 65536) t3 ∙ u3 in
    let q4 : p.chunk.ssn.0 % 65536 ≡ p.chunk.ssn.0 = omega (arith, s.ssn) in
    let r5 : shape_of p.chunk / 16 ≡ p.chunk.stream.0 * 4096 + p.chunk.len % 4096 = omega (arith, b, e, u) in
    let t5 : (p.chunk.stream.0 * 4096 + p.chunk.len % 4096) % 4096 ≡ p.chunk.len = omega (arith, q0, s.len) in
    let q5 : shape_of p.chunk / 16 % 4096 ≡ p.chunk.len = ap (λ (n : ℕ). n % 4096) r5 ∙ t5 in
    let q6 = low_bit p.chunk.begin (shape_of p.chunk) (p.chunk.stream.0 * 32768 + p.chunk.len % 4096 * 8 + bit p.chunk.end + bit p.chunk.unordered * 2) (omega arith) in
    let q7 = low_bit p.chunk.end (shape_of p.chunk / 2) (p.chunk.stream.0 * 16384 + p.chunk.len % 4096 * 4 + bit p.chunk.unordered) (omega (arith, b)) in
    let q8 = low_bit p.chunk.unordered (shape_of p.chunk / 4) (p.chunk.stream.0 * 8192 + p.chunk.len % 4096 * 2) (omega (arith, b, e)) in
    let q9 : p.chunk.tsn.0 % 4294967296 ≡ p.chunk.tsn.0 = omega (arith, s.tsn) in
    let q10 : p.chunk.order % 4294967296 ≡ p.chunk.order = omega (arith, s.order) in
    let q11 : p.chunk.ppid % 4294967296 ≡ p.chunk.ppid = omega (arith, s.ppid) in
    rw (q1, q2, q3, q4, q5, q6, q7, q8, q9, q10, q11)

-- ---- words of which only those of one place are new

record Touches (j : ℕ) (ws vs : List ℕ) : Type 0 where
  other : (i k : ℕ) → k < 8 → (i ≡ j → ⊥) → get_or vs (8 * i + k) 0 ≡ get_or ws (8 * i + k) 0

touch-other : {j : ℕ} {ws vs : List ℕ} → Touches j ws vs → (i : ℕ) → (i ≡ j → ⊥) → place_in vs i ≡ place_in ws i
touch-other {j} {ws} {vs} t i n =
    let z : 8 * i ≡ 8 * i + 0 = omega arith in
    let q : get_or vs (8 * i) 0 ≡ get_or ws (8 * i) 0 = ap (λ (m : ℕ). get_or vs m 0) z ∙ (t.other i 0 (omega arith) n ∙ sym (ap (λ (m : ℕ). get_or ws m 0) z)) in
    rw (q, t.other i 1 (omega arith) n, t.other i 2 (omega arith) n, t.other i 3 (omega arith) n, t.other i 4 (omega arith) n, t.other i 5 (omega arith) n)

-- that place, and all others as they were
touched : (P : Profile) {j : ℕ} {ws vs : List ℕ} → Touches j ws vs → {p : Place} → place_in vs j ≡ p → j < P.places → places_of P vs ≡ set (places_of P ws) j p
unfolding places_of
touched P {j} t e h = shown-touched place_in j (touch-other t) e P.places h

-- ---- a place that is put

-- six stores, one behind the other
pub six-stores : (ws : List ℕ) (at a b c d e f : ℕ) → set (set (set (set (set (set ws at a) (at + 1) b) (at + 2) c) (at + 3) d) (at + 4) e) (at + 5) f ≡ laid ws at (a ∷ b ∷ c ∷ d ∷ e ∷ f ∷ [])
six-stores ws at a b c d e f =
    let e2 : (at + 1) + 1 ≡ at + 2 = omega arith in
    let e3 : (at + 2) + 1 ≡ at + 3 = omega arith in
    let e4 : (at + 3) + 1 ≡ at + 4 = omega arith in
    let e5 : (at + 4) + 1 ≡ at + 5 = omega arith in
    let w1 = set ws at a in
    let w2 = set w1 (at + 1) b in
    let w3 = set w2 (at + 2) c in
    let w4 = set w3 (at + 3) d in
    let w5 = set w4 (at + 4) e in
    sym (laid-step a (b ∷ c ∷ d ∷ e ∷ f ∷ []) ws at
    ∙ (laid-step b (c ∷ d ∷ e ∷ f ∷ []) w1 (at + 1) ∙ ap (λ (k : ℕ). laid w2 k (c ∷ d ∷ e ∷ f ∷ [])) e2
    ∙ (laid-step c (d ∷ e ∷ f ∷ []) w2 (at + 2) ∙ ap (λ (k : ℕ). laid w3 k (d ∷ e ∷ f ∷ [])) e3
    ∙ (laid-step d (e ∷ f ∷ []) w3 (at + 3) ∙ ap (λ (k : ℕ). laid w4 k (e ∷ f ∷ [])) e4
    ∙ (laid-step e (f ∷ []) w4 (at + 4) ∙ ap (λ (k : ℕ). laid w5 k (f ∷ [])) e5
    ∙ laid_one w5 (at + 5) f)))))

put-touches : (ws : List ℕ) (j : ℕ) (p : Place) → Touches j ws (laid ws (8 * j) (place_words p))
put-touches ws j p = record {
  other =
      λ i k h n. less-or-more i j n
      (λ l. laid-below (place_words p) ws (8 * j) (8 * i + k) (omega arith))
      (λ l. laid-above (place_words p) ws (8 * j) (8 * i + k) (omega arith));
}

put-here : (ws : List ℕ) (j : ℕ) (p : Place) → 8 * j + 8 ≤ length ws → PlaceSmall p → place_in (laid ws (8 * j) (place_words p)) j ≡ p
put-here ws j p l s =
    rw (
      laid_in (place_words p) ws (8 * j) 0 (8 * j) (omega arith) (omega arith) (omega arith),
      laid_in (place_words p) ws (8 * j) 1 (8 * j + 1) (omega arith) (omega arith) refl,
      laid_in (place_words p) ws (8 * j) 2 (8 * j + 2) (omega arith) (omega arith) refl,
      laid_in (place_words p) ws (8 * j) 3 (8 * j + 3) (omega arith) (omega arith) refl,
      laid_in (place_words p) ws (8 * j) 4 (8 * j + 4) (omega arith) (omega arith) refl,
      laid_in (place_words p) ws (8 * j) 5 (8 * j + 5) (omega arith) (omega arith) refl,
    ) (decoded-words p s)

-- what is put within the places is laid there; elsewhere nothing
pub place-put-within : (P : Profile) (ws : List ℕ) (i : ℕ) (p : Place) → i < P.places → laid ws (8 * i) (place_words p) ≡ place_put P ws i p
unfolding place_put
place-put-within P ws i p l = rw (lt-ltb i P.places l)

pub place-put-past : (P : Profile) (ws : List ℕ) (i : ℕ) (p : Place) → P.places ≤ i → ws ≡ place_put P ws i p
unfolding place_put
place-put-past P ws i p l = rw (le-ltb i P.places l)

-- the other places, by their words, whatever their number
pub put_other : (P : Profile) (ws : List ℕ) (i : ℕ) (p : Place) (j : ℕ) → (j ≡ i → ⊥) → place_in (place_put P ws i p) j ≡ place_in ws j
unfolding place_put
put_other P ws i p j n = go (ltb i P.places)
  where
    go : (t : Bool) → place_in (pick t (laid ws (8 * i) (place_words p)) ws) j ≡ place_in ws j
    go true = touch-other (put-touches ws i p) j n
    go false = refl

-- the places after one is put: that one, and all others as they were
pub place-put : (P : Profile) (ws : List ℕ) (i : ℕ) (p : Place) → 8 * P.places ≤ length ws → PlaceSmall p → places_of P (place_put P ws i p) ≡ set (places_of P ws) i p
place-put P ws i p l s = go (dec_lt i P.places)
  where
    go : Dec (i < P.places) → places_of P (place_put P ws i p) ≡ set (places_of P ws) i p
    go (yes k) = ap (places_of P) (sym (place-put-within P ws i p k)) ∙ touched P (put-touches ws i p) (put-here ws i p (omega arith) s) k
    go (no k) =
        let m : length (places_of P ws) ≤ i = omega (arith, places-long P ws) in
        ap (places_of P) (sym (place-put-past P ws i p (omega arith))) ∙ sym (set_out (places_of P ws) i p m)

-- the words stay as many
pub place-put-long : (P : Profile) (ws : List ℕ) (i : ℕ) (p : Place) → length (place_put P ws i p) ≡ length ws
unfolding place_put
place-put-long P ws i p = go (ltb i P.places)
  where
    go : (t : Bool) → length (pick t (laid ws (8 * i) (place_words p)) ws) ≡ length ws
    go true = length-laid ws (8 * i) (place_words p)
    go false = refl

-- ---- a state that is put

state-touches : (ws : List ℕ) (j x : ℕ) → Touches j ws (set ws (8 * j + 5) x)
state-touches ws j x = record {
  other =
      λ i k h n. less-or-more i j n
      (λ l. get_or-set_other ws (8 * j + 5) (8 * i + k) x 0 (λ e. absurd (omega arith)))
      (λ l. get_or-set_other ws (8 * j + 5) (8 * i + k) x 0 (λ e. absurd (omega arith)));
}

state-here : (ws : List ℕ) (j : ℕ) (p : Place) → 8 * j + 8 ≤ length ws → p.status < 256 → p.misses < 256 → (place_in ws j).chunk ≡ p.chunk
    → place_in (set ws (8 * j + 5) (state_word p)) j ≡ p
unfolding place_decoded
state-here ws j p l s m c =
    let q1 : state_word p % 256 ≡ p.status = omega arith in
    let t2 : state_word p / 256 ≡ p.misses = omega arith in
    let u2 : p.misses % 256 ≡ p.misses = omega arith in
    let q2 : state_word p / 256 % 256 ≡ p.misses = ap (λ (n : ℕ). n % 256) t2 ∙ u2 in
    let x0 = get_or-set_other ws (8 * j + 5) (8 * j) (state_word p) 0 (λ e. absurd (omega arith)) in
    let x1 = get_or-set_other ws (8 * j + 5) (8 * j + 1) (state_word p) 0 (λ e. absurd (omega arith)) in
    let x2 = get_or-set_other ws (8 * j + 5) (8 * j + 2) (state_word p) 0 (λ e. absurd (omega arith)) in
    let x3 = get_or-set_other ws (8 * j + 5) (8 * j + 3) (state_word p) 0 (λ e. absurd (omega arith)) in
    let x4 = get_or-set_other ws (8 * j + 5) (8 * j + 4) (state_word p) 0 (λ e. absurd (omega arith)) in
    rw (x0, x1, x2, x3, x4, get_or-set_same ws (8 * j + 5) (state_word p) 0 (omega arith), q1, q2, c)

pub state-within : (P : Profile) (ws : List ℕ) (i : ℕ) (p : Place) → i < P.places → set ws (8 * i + 5) (state_word p) ≡ state_put P ws i p
unfolding state_put
state-within P ws i p l = rw (lt-ltb i P.places l)

pub state-past : (P : Profile) (ws : List ℕ) (i : ℕ) (p : Place) → P.places ≤ i → ws ≡ state_put P ws i p
unfolding state_put
state-past P ws i p l = rw (le-ltb i P.places l)

pub state-other : (P : Profile) (ws : List ℕ) (i : ℕ) (p : Place) (j : ℕ) → (j ≡ i → ⊥) → place_in (state_put P ws i p) j ≡ place_in ws j
unfolding state_put
state-other P ws i p j n = go (ltb i P.places)
  where
    go : (t : Bool) → place_in (pick t (set ws (8 * i + 5) (state_word p)) ws) j ≡ place_in ws j
    go true = touch-other (state-touches ws i (state_word p)) j n
    go false = refl

-- the places after one has another state: that one, its chunk kept, and all others as they were
pub state-put : (P : Profile) (ws : List ℕ) (i : ℕ) (p : Place) → 8 * P.places ≤ length ws → i < P.places → p.status < 256 → p.misses < 256
    → p.chunk ≡ (place_at P ws i).chunk → places_of P (state_put P ws i p) ≡ set (places_of P ws) i p
state-put P ws i p l h s m c =
    ap (places_of P) (sym (state-within P ws i p h))
    ∙ touched P (state-touches ws i (state_word p)) (state-here ws i p (omega arith) s m (ap (λ (x : Place). x.chunk) (place-in P ws i h) ∙ sym c)) h

pub state-long : (P : Profile) (ws : List ℕ) (i : ℕ) (p : Place) → length (state_put P ws i p) ≡ length ws
unfolding state_put
state-long P ws i p = go (ltb i P.places)
  where
    go : (t : Bool) → length (pick t (set ws (8 * i + 5) (state_word p)) ws) ≡ length ws
    go true = length-set ws (8 * i + 5) (state_word p)
    go false = refl

-- ---- a place put as it was got

pub put_same : (ps : List Place) (i : ℕ) → set ps i (get_or ps i vacant) ≡ ps
put_same [] i = refl
put_same (p ∷ ps) zero = refl
put_same (p ∷ ps) (suc i) = ap (λ (r : List Place). p ∷ r) (put_same ps i)

-- the places stay; bits that no place uses may not
pub put-got : (P : Profile) (ws : List ℕ) (i : ℕ) → 8 * P.places ≤ length ws → places_of P (place_put P ws i (place_at P ws i)) ≡ places_of P ws
put-got P ws i l = place-put P ws i (place_at P ws i) l (place-small P ws i) ∙ put_same (places_of P ws) i
