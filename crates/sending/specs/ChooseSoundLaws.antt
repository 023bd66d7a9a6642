-- Filling a packet keeps the bounds: each chunk first sent has waited longest and gets the next TSN, so every TSN is given once, successive.
-- Assumes nothing.
use Rattle.std.specs.Prelude.{◌≡◌, ℕ, zero, suc, ◌+◌, ◌-◌, ◌%◌, ◌^◌, ◌<◌, ◌≤◌, Bool, true, false, List, [], ◌∷◌, length, get_or, ◌==◌, ◌≢◌, nat_eq, nat_lt, slice_index_or, slice_set}
use Rattle.std.proofs.Common.{zero-le, sym, ap, ◌∙◌, inl, inr, ⊎_elim, mod-eq_of_lt, arith, le-leb, eq-eqb, ne_eqb, eqb-true, ltb-true, ltb-false}
use Rattle.std.proofs.Math.Path.{refl}
use Rattle.std.proofs.Math.Nat.{mod-lt}
use Rattle.std.proofs.Math.Decide.{dec_lt, dec_le, ℕ_discrete}
use Rattle.std.proofs.lemmas.Bool.{lt-leb, eqb-false}
use Rattle.std.proofs.Math.ListN.{length-set}
use mir.Val.{bool_byte}
use Rattle.numbers.specs.declared.circle.Tsn.{Tsn}
use Rattle.numbers.specs.Circle.{steps}
use Rattle.numbers.specs.Numbering.{ring, on}
use Rattle.numbers.specs.ReachLaws.{ahead-on, on-ahead, on-on, on-On}
use Rattle.numbers.specs.Profile.{Profile}
use Rattle.scans.specs.Scan.{pick, any, count, fold_from}
use Rattle.scans.specs.CountsLaws.{count_most, count_at, count_set, count-set-same, any-set-same}
use Rattle.scans.specs.Each.{All, all-at, all_set, clash}
use Rattle.scans.specs.Upto.{run-keeps}
use Rattle.path.specs.Sizes.{Sizes}
use Rattle.places.specs.declared.place.Place.{Place}
use Rattle.places.specs.Places.{being, ahead_of, has_status, is_sent}
use Rattle.places.specs.PlacesLaws.{PlaceAlike, sent-alike, status-sent, unsent}
use Rattle.sending.specs.declared.sending.Sending.{Sending}
use Rattle.sending.specs.declared.choosing.Best.{Best}
use Rattle.sending.specs.declared.choosing.Chosen.{Chosen}
use Rattle.sending.specs.Sending.{no_place, sent_above_point}
use Rattle.sending.specs.Choose.{rank_of, better_place, best_place, put, again, first_sent, numbered, flying, sent, going, filling, fill_begun, packet_filled}
use Rattle.sending.specs.SendingBounds.{key_of, members_of, has_key, PlaceFits, Successive, SendingSound}
use Rattle.sending.specs.ChooseLaws.{going-rank, going-ready, put-sums, begun-sums, begun-path}
use Rattle.sending.specs.SoundLaws.{alike-key, alike-fit}
use Rattle.sending.specs.AcknowledgeLaws.{OnCircle, key-sent, key-unsent}

-- ---- one place replaced

module _ {A : Type 0} (f : A → Bool) (d : A) where
  -- one that passes stays where another is replaced
  pub any-set-other : (xs : List A) (i : ℕ) (x : A) → f (slice_index_or xs i d) ≡ false → any f xs ≡ true → any f (slice_set xs i x) ≡ true
  any-set-other [] i x e h = h
  any-set-other (y ∷ xs) zero x e h = go (f x) (rw e at h)
    where
      go : (t : Bool) → any f xs ≡ true → pick t true (any f xs) ≡ true
      go true k = refl
      go false k = k
  any-set-other (y ∷ xs) (suc i) x e h = go (f y) refl (any-set-other xs i x e)
    where
      go : (t : Bool) → f y ≡ t → (any f xs ≡ true → any f (slice_set xs i x) ≡ true) → pick t true (any f (slice_set xs i x)) ≡ true
      go true q ih = refl
      go false q ih = ih (rw q at h)

  pub any-set-new : (xs : List A) (i : ℕ) (x : A) → i < length xs → f x ≡ true → any f (slice_set xs i x) ≡ true
  any-set-new [] i x h e = absurd (omega arith)
  any-set-new (y ∷ xs) zero x h e = rw e
  any-set-new (y ∷ xs) (suc i) x h e = go (f y) (any-set-new xs i x (omega arith) e)
    where
      go : (t : Bool) → any f (slice_set xs i x) ≡ true → pick t true (any f (slice_set xs i x)) ≡ true
      go true ih = refl
      go false ih = ih

pub any-imp : {A : Type 0} (f g : A → Bool) (xs : List A) → All (λ (x : A). f x ≡ true → g x ≡ true) xs → any f xs ≡ true → any g xs ≡ true
any-imp f g [] w h = h
any-imp f g (x ∷ xs) w h = go (f x) refl (g x) refl (any-imp f g xs w.1)
  where
    go : (a : Bool) → f x ≡ a → (b : Bool) → g x ≡ b → (any f xs ≡ true → any g xs ≡ true) → pick b true (any g xs) ≡ true
    go a p true q ih = refl
    go true p false q ih = clash (sym q ∙ w.0 p)
    go false p false q ih = ih (rw p at h)

in-range : (ps : List Place) (i : ℕ) → ((get_or ps i no_place).status ≢ 0) → i < length ps
in-range [] i n = absurd (n refl)
in-range (p ∷ ps) zero n = omega arith
in-range (p ∷ ps) (suc i) n = omega (arith, in-range ps i n)

-- ---- one that is sent again

module _ (ps : List Place) (i : ℕ) (q : Place) (w : PlaceAlike (slice_index_or ps i no_place) q) where
  set-members : (b : Bool) → members_of b (slice_set ps i q) ≡ members_of b ps
  set-members true = count-set-same is_sent no_place ps i q w.sent
  set-members false = count-set-same (has_status 1) no_place ps i q w.waits

  set-successive : (b : Bool) (a : Tsn) (o n : ℕ) → Successive b a o ps n → Successive b a o (slice_set ps i q) n
  set-successive b a o n s = record {
    many = set-members b ∙ s.many;
    each = λ k h l. any-set-same (has_key b a o k) no_place ps i q (ap (λ (x : ℕ). nat_eq x k) (alike-key b a o (slice_index_or ps i no_place) q w)) ∙ s.each k h l;
  }

none-fit : (P : Profile) → PlaceFits P no_place
none-fit P = record { status = omega arith; misses = omega arith; cut = λ e. absurd (e refl) }

marked-again : (p : Place) → p.status ≡ 3 → PlaceAlike p (being p 2)
marked-again p e = sent-alike p (being p 2) (status-sent p (omega arith) (omega arith)) (omega arith) (omega arith) refl (λ m. m)

again-sound : (z : Sizes) (P : Profile) (s : Sending) (i : ℕ) → (get_or s.places i no_place).status ≡ 3 → SendingSound z P s → SendingSound z P (again s i (slice_index_or s.places i no_place))
unfolding again put
again-sound z P s i e w =
    let p = get_or s.places i no_place in
    let l = marked-again p e in
    record {
      path = record { controlled = w.path.controlled; clocked = w.path.clocked; tried = w.path.tried };
      booked = w.booked;
      summed = put-sums s i (being p 2) refl (inl e) w.summed;
      fit = all_set (PlaceFits P) s.places i (being p 2) (alike-fit P p (being p 2) l (all-at (PlaceFits P) s.places i no_place (none-fit P) w.fit)) w.fit;
      ahead = w.ahead;
      sent = set-successive s.places i (being p 2) l true s.acked s.oldest _ w.sent;
      waiting = rw (set-members s.places i (being p 2) l false) (set-successive s.places i (being p 2) l false s.acked s.oldest _ w.waiting);
    }

-- ---- the one that has waited longest

better-least : (a : Tsn) (o : ℕ) (b : Best) (i : ℕ) (x : Place) → ((better_place a o b i x).rank ≤ b.rank) × ((better_place a o b i x).rank ≤ rank_of a o x)
unfolding better_place
better-least a o b i x = go (nat_lt (rank_of a o x) b.rank) refl
  where
    go : (t : Bool) → nat_lt (rank_of a o x) b.rank ≡ t
        → ((pick t (record { rank = rank_of a o x; place = i }) b).rank ≤ b.rank) × ((pick t (record { rank = rank_of a o x; place = i }) b).rank ≤ rank_of a o x)
    go true e = (omega (arith, ltb-true (rank_of a o x) b.rank e), omega arith)
    go false e = (omega arith, ltb-false (rank_of a o x) b.rank e)

best-start : (a : Tsn) (o : ℕ) (ps : List Place) (b : Best) (i : ℕ) → (fold_from (better_place a o) b i ps).rank ≤ b.rank
best-start a o [] b i = omega arith
best-start a o (x ∷ ps) b i = omega (arith, best-start a o ps (better_place a o b i x) (i + 1), (better-least a o b i x).0)

best-least : (a : Tsn) (o r : ℕ) (ps : List Place) (b : Best) (i : ℕ) → any (λ p. nat_eq (rank_of a o p) r) ps ≡ true → (fold_from (better_place a o) b i ps).rank ≤ r
best-least a o r [] b i e = clash e
best-least a o r (x ∷ ps) b i e = go (rank_of a o x == r) refl (best-least a o r ps (better_place a o b i x) (i + 1))
  where
    go : (t : Bool) → (rank_of a o x == r) ≡ t → (any (λ p. nat_eq (rank_of a o p) r) ps ≡ true → (fold_from (better_place a o) (better_place a o b i x) (i + 1) ps).rank ≤ r)
        → (fold_from (better_place a o) (better_place a o b i x) (i + 1) ps).rank ≤ r
    go true q ih = omega (arith, best-start a o ps (better_place a o b i x) (i + 1), (better-least a o b i x).1, eqb-true (rank_of a o x) r q)
    go false q ih = ih (rw q at e)

pub key-waits : (a : Tsn) (o : ℕ) (p : Place) → p.status ≡ 1 → key_of false a o p ≡ steps (2 ^ 32) o p.chunk.order + 1
unfolding key_of
key-waits a o p e = rw (eq-eqb p.status 1 e)

pub key-none : (a : Tsn) (o : ℕ) (p : Place) → (p.status ≢ 1) → key_of false a o p ≡ 0
unfolding key_of
key-none a o p n = rw (ne_eqb p.status 1 n)

rank-waits : (a : Tsn) (o : ℕ) (p : Place) → p.status ≡ 1 → rank_of a o p ≡ 4294967296 + steps (2 ^ 32) o p.chunk.order
unfolding rank_of
rank-waits a o p e = rw (ne_eqb p.status 3 (λ q. omega arith), eq-eqb p.status 1 e)

oldest-rank : (a : Tsn) (o : ℕ) (ps : List Place) → All (λ (p : Place). has_key false a o 1 p ≡ true → (rank_of a o p == 4294967296) ≡ true) ps
oldest-rank a o [] = tt
oldest-rank a o (p ∷ ps) = (λ e. at (ℕ_discrete p.status 1) (eqb-true (key_of false a o p) 1 e), oldest-rank a o ps)
  where
    at : Dec (p.status ≡ 1) → key_of false a o p ≡ 1 → (rank_of a o p == 4294967296) ≡ true
    at (yes h) k = eq-eqb (rank_of a o p) 4294967296 (omega (arith, rank-waits a o p h, key-waits a o p h, k))
    at (no h) k = absurd (omega (arith, key-none a o p h, k))

best-rank : (a : Tsn) (o : ℕ) (ps : List Place) → any (λ p. nat_eq (rank_of a o p) 4294967296) ps ≡ true → (best_place a o ps).rank ≤ 4294967296
unfolding best_place
best-rank a o ps e = best-least a o 4294967296 ps (record { rank = 8589934592; place = 0 }) 0 e

-- "then new", in the order of handing in: a new one that goes is the first of those that wait
pub first-waits : (z : Sizes) (P : Profile) (f : Chosen) → SendingSound z P f.sending → (going f).go ≡ true → (get_or f.sending.places (going f).place no_place).status ≡ 1
    → key_of false f.sending.acked f.sending.oldest (slice_index_or f.sending.places (going f).place no_place) ≡ 1
first-waits z P f w g e =
    let a = f.sending.acked in
    let o = f.sending.oldest in
    let ps = f.sending.places in
    let p = get_or ps (going f).place no_place in
    let one : 1 ≤ count (has_status 1) ps = count_at (has_status 1) no_place ps (going f).place (in-range ps (going f).place (λ q. omega arith)) (eq-eqb p.status 1 e) in
    let l = best-rank a o ps (any-imp (has_key false a o 1) (λ x. nat_eq (rank_of a o x) 4294967296) ps (oldest-rank a o ps) (w.waiting.each 1 (omega arith) one)) in
    omega (arith, l, going-rank f g, rank-waits a o p e, key-waits a o p e)

-- ---- one that is first sent

-- what the types say: each number is one of its circle, and there are few places
pub record SendingTyped (s : Sending) : Type 0 where
  pub circle : OnCircle s
  pub oldest : s.oldest < 2 ^ 32
  pub orders : All (λ (p : Place). p.chunk.order < 2 ^ 32) s.places
  pub few : length s.places < 2 ^ 30

-- with the oldest gone, each of the others is one nearer
steps_next : (o x j : ℕ) → o < 2 ^ 32 → x < 2 ^ 32 → 0 < j → steps (2 ^ 32) o x + 1 ≡ suc j → steps (2 ^ 32) ((o + 1) % 2 ^ 32) x + 1 ≡ j
steps_next o x j ho hx hj e = go (dec_lt (o + 1) (2 ^ 32)) (dec_le o x)
  where
    go : Dec (o + 1 < 2 ^ 32) → Dec (o ≤ x) → steps (2 ^ 32) ((o + 1) % 2 ^ 32) x + 1 ≡ j
    go (yes h) (yes l) =
        let q : x - o + 1 ≡ suc j = rw (le-leb o x l) at e in
        rw (mod-eq_of_lt h, le-leb (o + 1) x (omega arith)) (omega arith)
    go (yes h) (no l) =
        let m : x < o = omega arith in
        let q : 2 ^ 32 + x - o + 1 ≡ suc j = rw (lt-leb o x m) at e in
        rw (mod-eq_of_lt h, lt-leb (o + 1) x (omega arith)) (omega arith)
    go (no h) (yes l) =
        let q : x - o + 1 ≡ suc j = rw (le-leb o x l) at e in
        absurd (omega arith)
    go (no h) (no l) =
        let m : x < o = omega arith in
        let q : 2 ^ 32 + x - o + 1 ≡ suc j = rw (lt-leb o x m) at e in
        let r : (o + 1) % 2 ^ 32 ≡ 0 = omega arith in
        rw (r, le-leb 0 x zero-le) (omega arith)

keys-next : (a : Tsn) (o j : ℕ) → o < 2 ^ 32 → 0 < j → (ps : List Place) → All (λ (p : Place). p.chunk.order < 2 ^ 32) ps
    → All (λ (p : Place). has_key false a o (suc j) p ≡ true → has_key false a ((o + 1) % 2 ^ 32) j p ≡ true) ps
keys-next a o j ho hj [] w = tt
keys-next a o j ho hj (p ∷ ps) w = (λ e. at (ℕ_discrete p.status 1) (eqb-true (key_of false a o p) (suc j) e), keys-next a o j ho hj ps w.1)
  where
    at : Dec (p.status ≡ 1) → key_of false a o p ≡ suc j → has_key false a ((o + 1) % 2 ^ 32) j p ≡ true
    at (yes h) k =
        eq-eqb (key_of false a ((o + 1) % 2 ^ 32) p) j
        (key-waits a ((o + 1) % 2 ^ 32) p h ∙ steps_next o p.chunk.order j ho w.0 hj (sym (key-waits a o p h) ∙ k))
    at (no h) k = absurd (omega (arith, key-none a o p h, k))

-- TSNs do not tell by the oldest
key-alone : (a : Tsn) (o u : ℕ) (p : Place) → key_of true a u p ≡ key_of true a o p
unfolding key_of
key-alone a o u p = refl

new-tsn : (P : Profile) (s : Sending) (p : Place) → (flying P s p).chunk.tsn ≡ s.next_tsn
unfolding numbered
new-tsn P s p = refl

new-order : (P : Profile) (s : Sending) (p : Place) → (flying P s p).chunk.order ≡ p.chunk.order
unfolding numbered
new-order P s p = refl

new-fit : (P : Profile) (s : Sending) (p : Place) → p.status ≡ 1 → PlaceFits P p → PlaceFits P (flying P s p)
unfolding numbered
new-fit P s p e w =
    let c = w.cut (λ q. omega arith) in
    record { status = omega arith; misses = w.misses; cut = λ n. record { some = c.some; small = c.small; stream = c.stream } }

module _ (z : Sizes) (P : Profile) (s : Sending) (w : SendingSound z P s) (t : SendingTyped s) where
  -- the next TSN but one
  next-ahead : ahead_of s.acked (record { 0 = on (ring (2 ^ 32)) s.next_tsn.0 1 }) ≡ suc (ahead_of s.acked s.next_tsn)
  next-ahead =
      let h = ahead_of s.acked s.next_tsn in
      let v = ahead-on (ring (2 ^ 32)) s.acked.0 s.next_tsn.0 t.circle.acked t.circle.next w.ahead in
      on-ahead (ring (2 ^ 32)) s.acked.0 (on (ring (2 ^ 32)) s.next_tsn.0 1) (suc h) t.circle.acked (omega (arith, w.sent.many, count_most is_sent s.places, t.few))
      (ap (on (ring (2 ^ 32)) s.acked.0) (omega arith) ∙ (sym (on-on (ring (2 ^ 32)) s.acked.0 h 1) ∙ ap (λ (x : ℕ). on (ring (2 ^ 32)) x 1) v.0))

  module _ (i : ℕ) (e : (get_or s.places i no_place).status ≡ 1) (k : key_of false s.acked s.oldest (slice_index_or s.places i no_place) ≡ 1) where
    abbrev here : Place
    here = slice_index_or s.places i no_place

    abbrev new : Place
    new = flying P s (slice_index_or s.places i no_place)

    inside : i < length s.places
    inside = in-range s.places i (λ q. omega arith)

    was-unsent : is_sent here ≡ false
    was-unsent = unsent here (omega arith)

    new-sent : is_sent new ≡ true
    new-sent = status-sent new (omega arith) (omega arith)

    new-key : (o : ℕ) → key_of true s.acked o new ≡ ahead_of s.acked s.next_tsn
    new-key o = key-sent s.acked o new new-sent ∙ ap (ahead_of s.acked) (new-tsn P s here)

    first-sent : (o : ℕ) → Successive true s.acked o (slice_set s.places i new) (suc (sent_above_point s))
    first-sent o = record { many = omega (arith, count_set is_sent no_place s.places i new inside, ap bool_byte was-unsent, ap bool_byte new-sent, w.sent.many); each = λ j a b. at j a b (dec_le j (sent_above_point s)) }
      where
        at : (j : ℕ) → 0 < j → j ≤ suc (sent_above_point s) → Dec (j ≤ sent_above_point s) → any (has_key true s.acked o j) (slice_set s.places i new) ≡ true
        at j a b (yes l) =
            any-set-other (has_key true s.acked o j) no_place s.places i new
            (ne_eqb (key_of true s.acked o here) j (λ q. omega (arith, key-unsent s.acked o here was-unsent, q, a)))
            (old j a l)
          where
            old : (j : ℕ) → 0 < j → j ≤ sent_above_point s → any (has_key true s.acked o j) s.places ≡ true
            old j a l = by-oldest s.places ∙ w.sent.each j a l
              where
                by-oldest : (ps : List Place) → any (has_key true s.acked o j) ps ≡ any (has_key true s.acked s.oldest j) ps
                by-oldest [] = refl
                by-oldest (p ∷ ps) = rw (key-alone s.acked s.oldest o p, by-oldest ps)
        at j a b (no l) =
            any-set-new (has_key true s.acked o j) no_place s.places i new inside
            (eq-eqb (key_of true s.acked o new) j (omega (arith, new-key o, b, w.ahead)))

    left-waiting : suc (count (has_status 1) (slice_set s.places i new)) ≡ count (has_status 1) s.places
    left-waiting = omega (arith, count_set (has_status 1) no_place s.places i new inside, ap bool_byte (eq-eqb here.status 1 e))

    new-orders : All (λ (p : Place). p.chunk.order < 2 ^ 32) (slice_set s.places i new)
    new-orders =
        all_set (λ (p : Place). p.chunk.order < 2 ^ 32) s.places i new
        (omega (arith, new-order P s here, all-at (λ (p : Place). p.chunk.order < 2 ^ 32) s.places i no_place (omega arith) t.orders))
        t.orders

    first-waiting : Successive false s.acked ((s.oldest + 1) % 2 ^ 32) (slice_set s.places i new) (count (has_status 1) (slice_set s.places i new))
    first-waiting = record {
      many = refl;
      each = λ j a b. any-imp (has_key false s.acked s.oldest (suc j)) (has_key false s.acked ((s.oldest + 1) % 2 ^ 32) j) (slice_set s.places i new) (keys-next s.acked s.oldest j t.oldest a (slice_set s.places i new) new-orders) (any-set-other (has_key false s.acked s.oldest (suc j)) no_place s.places i new (ne_eqb (key_of false s.acked s.oldest here) (suc j) (λ q. omega (arith, k, q, a))) (w.waiting.each (suc j) (omega arith) (omega (arith, left-waiting, b))));
    }

    pub first-sound : SendingSound z P (first_sent P s i here)
    unfolding first_sent put
    first-sound =
        let r : ahead_of s.acked (record { 0 = on (ring (2 ^ 32)) s.next_tsn.0 1 }) - 1 ≡ suc (sent_above_point s) = omega (arith, next-ahead, w.ahead) in
        record {
          path = record { controlled = w.path.controlled; clocked = w.path.clocked; tried = w.path.tried };
          booked = w.booked;
          summed = put-sums s i new refl (inr e) w.summed;
          fit = all_set (PlaceFits P) s.places i new (new-fit P s here e (all-at (PlaceFits P) s.places i no_place (none-fit P) w.fit)) w.fit;
          ahead = omega (arith, next-ahead);
          sent = rw r (first-sent ((s.oldest + 1) % 2 ^ 32));
          waiting = first-waiting;
        }

    pub first-typed : SendingTyped (first_sent P s i here)
    unfolding first_sent put
    first-typed = record {
      circle = record {
        acked = t.circle.acked;
        next = on-On (ring (2 ^ 32)) s.next_tsn.0 1 t.circle.next;
        tsns = all_set (λ (p : Place). p.chunk.tsn.0 < 2 ^ 32) s.places i new (rw (new-tsn P s here) t.circle.next) t.circle.tsns;
      };
      oldest = mod-lt (s.oldest + 1) (omega arith);
      orders = new-orders;
      few = omega (arith, length-set s.places i new, t.few);
    }

  again-typed : (i : ℕ) → SendingTyped (again s i (slice_index_or s.places i no_place))
  unfolding again put
  again-typed i =
      let p = get_or s.places i no_place in
      record {
        circle = record {
          acked = t.circle.acked;
          next = t.circle.next;
          tsns = all_set (λ (x : Place). x.chunk.tsn.0 < 2 ^ 32) s.places i (being p 2) (all-at (λ (x : Place). x.chunk.tsn.0 < 2 ^ 32) s.places i no_place (omega arith) t.circle.tsns) t.circle.tsns;
        };
        oldest = t.oldest;
        orders = all_set (λ (x : Place). x.chunk.order < 2 ^ 32) s.places i (being p 2) (all-at (λ (x : Place). x.chunk.order < 2 ^ 32) s.places i no_place (omega arith) t.orders) t.orders;
        few = omega (arith, length-set s.places i (being p 2), t.few);
      }

-- ---- the packet

module _ (z : Sizes) (P : Profile) where
  abbrev pub Sure : Sending → Type 0
  Sure s = SendingSound z P s × SendingTyped s

  step-sure : (f : Chosen) → (going f).go ≡ true → Sure f.sending → Sure (filling P f (going f).place).sending
  unfolding filling sent
  step-sure f g h = at ((get_or f.sending.places (going f).place no_place).status == 3) refl
    where
      i : ℕ
      i = (going f).place

      at : (b : Bool) → ((get_or f.sending.places (going f).place no_place).status == 3) ≡ b
          → Sure (pick b (again f.sending (going f).place (slice_index_or f.sending.places (going f).place no_place)) (first_sent P f.sending (going f).place (slice_index_or f.sending.places (going f).place no_place)))
      at true q = (again-sound z P f.sending (going f).place (eqb-true _ 3 q) h.0, again-typed z P f.sending h.0 h.1 (going f).place)
      at false q =
          let e : (get_or f.sending.places (going f).place no_place).status ≡ 1
          = ⊎_elim (λ (x : (get_or f.sending.places (going f).place no_place).status ≡ 3). absurd (eqb-false _ 3 q x)) (λ (x : (get_or f.sending.places (going f).place no_place).status ≡ 1). x) (going-ready f g) in
          let k = first-waits z P f h.0 g e in
          (first-sound z P f.sending h.0 h.1 (going f).place e k, first-typed z P f.sending h.0 h.1 (going f).place e k)

  begun-sure : (s : Sending) → Sure s → Sure (fill_begun z s).sending
  unfolding fill_begun
  begun-sure s h = (
    record { booked = h.0.booked; path = begun-path z s h.0.path; summed = begun-sums z s; fit = h.0.fit; ahead = h.0.ahead; sent = h.0.sent; waiting = h.0.waiting },
    record { circle = record { acked = h.1.circle.acked; next = h.1.circle.next; tsns = h.1.circle.tsns }; oldest = h.1.oldest; orders = h.1.orders; few = h.1.few },
  )

  filled-sure : (s : Sending) → Sure s → Sure (packet_filled z P s).sending
  unfolding packet_filled
  filled-sure s h =
      run-keeps (λ (f : Chosen). Sure f.sending) (λ f. (going f).go) (λ f. filling P f (going f).place) step-sure z.bundled (fill_begun z s) (begun-sure s h)

  pub filled-sound : (s : Sending) → SendingSound z P s → SendingTyped s → SendingSound z P (packet_filled z P s).sending
  filled-sound s w t = (filled-sure s (w, t)).0

  pub filled-typed : (s : Sending) → SendingSound z P s → SendingTyped s → SendingTyped (packet_filled z P s).sending
  filled-typed s w t = (filled-sure s (w, t)).1
