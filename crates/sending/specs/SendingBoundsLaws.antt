-- The computed test of the bounds says what the bounds say, both ways. Assumes nothing.
use Rattle.std.specs.Prelude.{◌≡◌, ℕ, suc, ◌+◌, ◌-◌, ◌<◌, ◌≤◌, Bool, true, false, not, List, [], ◌∷◌, length, get_or, replicate, ◌==◌, ◌≢◌, nat_lt, slice_index_or, slice_set}
use Prim.Native.Nat.{zero-le}
use Rattle.std.proofs.Math.Path.{refl, sym, ap}
use Rattle.std.proofs.Common.{◌∙◌, get_or-set_same, get_or-set_other}
use native.Mathlib.Omega.{arith}
use Rattle.std.proofs.Math.Decide.{dec_lt, ℕ_discrete}
use borrow.Author.Tests.{lt-ltb, le-ltb, eq-eqb, ne_eqb, ltb-false, eqb-true, eqb-false, not-true}
use Rattle.std.proofs.Math.ListN.{length-replicate, length-set, get_or-eq_default}
use Rattle.numbers.specs.declared.circle.Tsn.{Tsn}
use Rattle.numbers.specs.Profile.{Profile, is_misfit, misfit-fits, fits-misfit}
use Rattle.numbers.specs.ComeLaws.{clear_at}
use Rattle.scans.specs.Scan.{pick, any, count, either, fold_from}
use Rattle.scans.specs.CountsLaws.{count_most}
use Rattle.scans.specs.Each.{all_map, after-not, clash, neither, any_none, none_any, upto-none, none-upto}
use Rattle.path.specs.Sizes.{Sizes, rail_sizes, sizes_of}
use Rattle.path.specs.Path.{is_path_within}
use Rattle.path.specs.PathLaws.{within-so, so-within, path-same-within}
use Rattle.places.specs.declared.place.Place.{Place}
use Rattle.places.specs.Places.{ahead_of, has_status, is_sent, tallied}
use Rattle.places.specs.PlacesLaws.{tallied-flight}
use Rattle.sending.specs.declared.sending.Sending.{Sending}
use Rattle.sending.specs.Sending.{sent_above_point}
use Rattle.sending.specs.SendingBounds.{is_place_odd, key_of, members_of, spot_of, marked_by, seen_of, is_gap, has_gap, is_successive, is_bounded, is_sending_within, PlaceFits, has_key, Successive, SendingSound}

-- ---- which numbers are there

module _ (P : Profile) where
  marked-long : (seen : List Bool) (k : ℕ) → length (marked_by P seen k) ≡ length seen
  unfolding marked_by
  marked-long seen k = go (nat_lt (spot_of P k) P.places)
    where
      go : (t : Bool) → length (pick t (slice_set seen (spot_of P k) true) seen) ≡ length seen
      go true = length-set seen (spot_of P k) true
      go false = refl

  -- a number from 1 on that has a place is noted there
  spot_in : (k : ℕ) → 0 < k → k ≤ P.places → spot_of P k ≡ k - 1
  unfolding spot_of
  spot_in k a b = rw (le-ltb k 1 a, le-ltb P.places k b)

  pub spot-none : (k : ℕ) → k < 1 → spot_of P k ≡ P.places
  unfolding spot_of
  spot-none k a = rw (lt-ltb k 1 a)

  spot_past : (k : ℕ) → 0 < k → P.places < k → spot_of P k ≡ P.places
  unfolding spot_of
  spot_past k a b = rw (le-ltb k 1 a, lt-ltb P.places k b)

  unnoted : (seen : List Bool) (k j : ℕ) → j < P.places → spot_of P k ≡ P.places → (k ≢ suc j) → slice_index_or (marked_by P seen k) j false ≡ either (k == suc j) (slice_index_or seen j false)
  unfolding marked_by
  unnoted seen k j h e q = rw (e, le-ltb P.places P.places (omega arith), ne_eqb k (suc j) q)

  noted : (seen : List Bool) (k j : ℕ) → length seen ≡ P.places → j < P.places → 0 < k → k ≤ P.places → slice_index_or (marked_by P seen k) j false ≡ either (k == suc j) (slice_index_or seen j false)
  unfolding marked_by
  noted seen k j l h a b = rw (spot_in k a b, lt-ltb (k - 1) P.places (omega arith)) (go (ℕ_discrete k (suc j)))
    where
      go : Dec (k ≡ suc j) → slice_index_or (slice_set seen (k - 1) true) j false ≡ either (k == suc j) (slice_index_or seen j false)
      go (yes q) =
          let m : k - 1 ≡ j = omega arith in
          rw (eq-eqb k (suc j) q, m) (get_or-set_same seen j true false (omega arith))
      go (no q) = rw (ne_eqb k (suc j) q) (get_or-set_other seen (k - 1) j true false (λ m. q (omega arith)))

  marked-at : (seen : List Bool) (k j : ℕ) → length seen ≡ P.places → j < P.places → slice_index_or (marked_by P seen k) j false ≡ either (k == suc j) (slice_index_or seen j false)
  marked-at seen k j l h = go (dec_lt k 1) (dec_lt P.places k)
    where
      go : Dec (k < 1) → Dec (P.places < k) → slice_index_or (marked_by P seen k) j false ≡ either (k == suc j) (slice_index_or seen j false)
      go (yes a) b = unnoted seen k j h (spot-none k a) (λ q. omega arith)
      go (no a) (yes b) = unnoted seen k j h (spot_past k (omega arith) b) (λ q. omega arith)
      go (no a) (no b) = noted seen k j l h (omega arith) (omega arith)

  module _ (sent : Bool) (acked : Tsn) (oldest : ℕ) where
    abbrev pub noting : List Bool → ℕ → Place → List Bool
    noting seen i p = marked_by P seen (key_of sent acked oldest p)

    seen-long : (seen : List Bool) (i : ℕ) (ps : List Place) → length (fold_from noting seen i ps) ≡ length seen
    seen-long seen i [] = refl
    seen-long seen i (p ∷ ps) = seen-long (noting seen i p) (i + 1) ps ∙ marked-long seen (key_of sent acked oldest p)

    either-turn : (a b c : Bool) → either (either a b) c ≡ either b (either a c)
    either-turn true true c = refl
    either-turn true false c = refl
    either-turn false b c = refl

    seen-from : (j : ℕ) → j < P.places → (ps : List Place) (seen : List Bool) (i : ℕ) → length seen ≡ P.places
        → slice_index_or (fold_from noting seen i ps) j false ≡ either (slice_index_or seen j false) (any (has_key sent acked oldest (suc j)) ps)
    seen-from j h [] seen i l = go (slice_index_or seen j false)
      where
        go : (t : Bool) → t ≡ either t false
        go true = refl
        go false = refl
    seen-from j h (p ∷ ps) seen i l =
        let k = key_of sent acked oldest p in
        seen-from j h ps (noting seen i p) (i + 1) (marked-long seen k ∙ l)
        ∙ (ap (λ (t : Bool). either t (any (has_key sent acked oldest (suc j)) ps)) (marked-at seen k j l h)
        ∙ either-turn (k == suc j) (slice_index_or seen j false) (any (has_key sent acked oldest (suc j)) ps))

    seen_at : (ps : List Place) (j : ℕ) → j < P.places → slice_index_or (seen_of P sent acked oldest ps) j false ≡ any (has_key sent acked oldest (suc j)) ps
    unfolding seen_of
    seen_at ps j h =
        seen-from j h ps (replicate P.places false) 0 (length-replicate P.places false)
        ∙ ap (λ (t : Bool). either t (any (has_key sent acked oldest (suc j)) ps)) (clear_at P.places j)

    seen-past : (ps : List Place) (j : ℕ) → P.places ≤ j → slice_index_or (seen_of P sent acked oldest ps) j false ≡ false
    unfolding seen_of
    seen-past ps j h =
        get_or-eq_default (fold_from noting (replicate P.places false) 0 ps) false {n = j} (omega (arith, seen-long (replicate P.places false) 0 ps, length-replicate P.places false))

    no_gap : (ps : List Place) (n : ℕ) → has_gap (seen_of P sent acked oldest ps) n ≡ false → (k : ℕ) → 0 < k → k ≤ n → any (has_key sent acked oldest k) ps ≡ true
    unfolding has_gap
    no_gap ps n e k a b =
        let f : get_or (seen_of P sent acked oldest ps) (k - 1) false ≡ true = back (slice_index_or (seen_of P sent acked oldest ps) (k - 1) false) (upto-none (is_gap (seen_of P sent acked oldest ps)) 0 n e (k - 1) zero-le (omega arith)) in
        let m : suc (k - 1) ≡ k = omega arith in
        go f m (dec_lt (k - 1) P.places)
      where
        back : (t : Bool) → not t ≡ false → t ≡ true
        back true q = refl
        back false q = clash (sym q)

        go : get_or (seen_of P sent acked oldest ps) (k - 1) false ≡ true → suc (k - 1) ≡ k → Dec (k - 1 < P.places) → any (has_key sent acked oldest k) ps ≡ true
        go f m (yes l) = rw m at (sym (seen_at ps (k - 1) l) ∙ f)
        go f m (no l) = clash (sym (seen-past ps (k - 1) (omega arith)) ∙ f)

    gapless : (ps : List Place) (n : ℕ) → n ≤ P.places → ((k : ℕ) → 0 < k → k ≤ n → any (has_key sent acked oldest k) ps ≡ true) → has_gap (seen_of P sent acked oldest ps) n ≡ false
    unfolding has_gap
    gapless ps n l f = none-upto (is_gap (seen_of P sent acked oldest ps)) 0 n (λ j a b. ap not (seen_at ps j (omega arith) ∙ f (suc j) (omega arith) (omega arith)))

  members-most : (sent : Bool) (ps : List Place) → members_of sent ps ≤ length ps
  members-most true ps = count_most is_sent ps
  members-most false ps = count_most (has_status 1) ps

  pub so-successive : (s : Sending) (sent : Bool) (n : ℕ) → is_successive P s sent n ≡ true → Successive sent s.acked s.oldest s.places n
  unfolding is_successive
  so-successive s sent n e = go (members_of sent s.places == n) refl e
    where
      go : (t : Bool) → (members_of sent s.places == n) ≡ t → pick t (not (has_gap (seen_of P sent s.acked s.oldest s.places) n)) false ≡ true
          → Successive sent s.acked s.oldest s.places n
      go true q f = record { many = eqb-true (members_of sent s.places) n q; each = no_gap sent s.acked s.oldest s.places n (not-true _ f) }
      go false q f = clash f

  pub successive-so : (s : Sending) (sent : Bool) (n : ℕ) → length s.places ≤ P.places → Successive sent s.acked s.oldest s.places n → is_successive P s sent n ≡ true
  unfolding is_successive
  successive-so s sent n l w =
      rw (eq-eqb (members_of sent s.places) n w.many, gapless sent s.acked s.oldest s.places n (omega (arith, members-most sent s.places, w.many)) w.each)

  -- ---- each place

  so-fit : (p : Place) → is_place_odd P p ≡ false → PlaceFits P p
  unfolding is_place_odd
  so-fit p e =
      let a = neither (nat_lt 4 p.status) _ e in
      let b = neither (nat_lt 3 p.misses) _ a.1 in
      record { status = ltb-false 4 p.status a.0; misses = ltb-false 3 p.misses b.0; cut = λ n. misfit-fits P p.chunk.len p.chunk.stream.0 (sym (ap (λ (t : Bool). pick t false (is_misfit P p.chunk.len p.chunk.stream.0)) (ne_eqb p.status 0 n)) ∙ b.1) }

  fit-so : (p : Place) → PlaceFits P p → is_place_odd P p ≡ false
  unfolding is_place_odd
  fit-so p w = rw (le-ltb 4 p.status w.status, le-ltb 3 p.misses w.misses) (go (p.status == 0) refl)
    where
      go : (c : Bool) → (p.status == 0) ≡ c → pick c false (is_misfit P p.chunk.len p.chunk.stream.0) ≡ false
      go true q = refl
      go false q = fits-misfit P p.chunk.len p.chunk.stream.0 (w.cut (eqb-false p.status 0 q))

-- ---- the record

module _ (z : Sizes) (P : Profile) (s : Sending) where
  abbrev tried : Bool → Bool → Bool → Bool → Bool → Bool → Bool
  tried a b c d e f = pick a (pick b (pick c false (pick d false (pick e f false))) false) false

  pub sending-test-sound : is_sending_within z P s ≡ true → SendingSound z P s
  unfolding is_sending_within is_bounded
  sending-test-sound h =
      let m = after-not (nat_lt 1 s.mode) _ h in
      go (ltb-false 1 s.mode m.0)
      (is_path_within z s.path)
      ((tallied s.acked s.places).flight == s.path.flight)
      (any (is_place_odd P) s.places)
      (nat_lt (ahead_of s.acked s.next_tsn) 1)
      (is_successive P s true (sent_above_point s))
      (is_successive P s false (count (has_status 1) s.places))
      refl refl refl refl refl refl m.1
    where
      go : s.mode ≤ 1 → (a b c d e f : Bool) → is_path_within z s.path ≡ a → ((tallied s.acked s.places).flight == s.path.flight) ≡ b → any (is_place_odd P) s.places ≡ c
          → nat_lt (ahead_of s.acked s.next_tsn) 1 ≡ d → is_successive P s true (sent_above_point s) ≡ e → is_successive P s false (count (has_status 1) s.places) ≡ f
          → tried a b c d e f ≡ true → SendingSound z P s
      go m false b c d e f u v w x y k h = clash h
      go m true false c d e f u v w x y k h = clash h
      go m true true true d e f u v w x y k h = clash h
      go m true true false true e f u v w x y k h = clash h
      go m true true false false false f u v w x y k h = clash h
      go m true true false false true false u v w x y k h = clash h
      go m true true false false true true u v w x y k h = record {
        booked = m;
        path = within-so z s.path u;
        summed = sym (eqb-true _ s.path.flight v) ∙ tallied-flight s.acked s.places;
        fit = all_map (λ p q. so-fit P p q) s.places (any_none (is_place_odd P) s.places w);
        ahead = ltb-false (ahead_of s.acked s.next_tsn) 1 x;
        sent = so-successive P s true (sent_above_point s) y;
        waiting = so-successive P s false (count (has_status 1) s.places) k;
      }

  -- the record has its places, and no more
  pub sending-sound-test : length s.places ≤ P.places → SendingSound z P s → is_sending_within z P s ≡ true
  unfolding is_sending_within is_bounded
  sending-sound-test l w =
      rw
      (le-ltb 1 s.mode w.booked, so-within z s.path w.path, eq-eqb _ _ (tallied-flight s.acked s.places ∙ sym w.summed), none_any (is_place_odd P) s.places (all_map (λ p q. fit-so P p q) s.places w.fit), le-ltb (ahead_of s.acked s.next_tsn) 1 w.ahead, successive-so P s true (sent_above_point s) l w.sent, successive-so P s false (count (has_status 1) s.places) l w.waiting)

-- the bounds are the same in both books
pub same-within : (m : ℕ) (P : Profile) (s : Sending) → is_sending_within (sizes_of m) P s ≡ is_sending_within rail_sizes P s
unfolding is_sending_within is_bounded
same-within m P s = rw (path-same-within m s.path)
