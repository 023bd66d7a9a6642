-- What stays true of the line receiver of an honest sender: each number that has come is held once or gone, and never both; what is gone is
-- whole messages, in each stream the first ones; and nothing gone lies above the least that is not by the number of places or more. So what is
-- held is near. Assumes nothing.
use Prim.Native.Nat.{ℕ, zero, suc, ◌+◌, ◌-◌, ◌*◌, ◌<◌, ◌≤◌}
use Rattle.std.specs.Prelude.{◌≡◌, Bool, true, length, leb}
use Rattle.std.proofs.Math.Path.{refl, ap}
use Rattle.std.proofs.Common.{sym, ◌∙◌, add-suc, arith}
use Rattle.std.proofs.Math.Bool.{false, not}
use mathlib.Core.List.{List, [], ◌∷◌}
use Rattle.std.proofs.Math.Decide.{dec_lt, dec_le}
use borrow.Author.Tests.{lt-ltb, le-ltb, le-leb, lt-leb}
use Rattle.std.proofs.Math.ListN.{get_or, get_or-eq_default}
use Rattle.std.proofs.Math.Dec.{ltb}
use mir.Val.{bool_byte as bit}
use Rattle.scans.specs.Scan.{pick, count, bit_le}
use Rattle.scans.specs.Each.{All, if-so}
use Rattle.numbers.specs.declared.circle.Ssn.{Ssn}
use Rattle.numbers.specs.declared.keeping.Keeping.{Keeping}
use Rattle.numbers.specs.Circle.{ssn0}
use Rattle.numbers.specs.Numbering.{line, far, NearerThan}
use Rattle.numbers.specs.Profile.{Profile}
use Rattle.numbers.specs.Keeping.{offset_of, is_come}
use Rattle.holding.specs.declared.held.Chunk.{Chunk}
use Rattle.holding.specs.declared.held.Held.{Held}
use Rattle.holding.specs.Held.{as_held}
use Rattle.delivery.specs.Receiving.{is_low}
use Rattle.line.specs.Runs.{copies}
use Rattle.line.specs.CountLaws.{bit-lt, bit-ge, below, is_below, below-run, below-le, all_held}
use Rattle.line.specs.Sender.{HonestSender, starts, starts_is, ordinal-zero, ordinal, ordinal-suc, ordinal-slow}
use Rattle.line.specs.ChosenLaws.{Real}
use Rattle.line.specs.Near.{NearHeld}

-- the circle's half is wide enough for what a receiver of so many places can hold
abbrev pub Wide : Profile → ℕ → Type 0
Wide P h = 3 * P.places < h

-- ---- what has come

-- whether number n has come: from the first to the point, and at the flags above it
unfoldable pub came : ℕ → ℕ → List Bool → ℕ → Bool
came base p come n = pick (ltb n base) false (pick (leb n p) true (get_or come (n - suc p) false))

module _ (base p : ℕ) (come : List Bool) (n : ℕ) where
  pub came-before : n < base → came base p come n ≡ false
  unfolding came
  came-before l = rw (lt-ltb n base l)

  pub came-past : base ≤ n → n ≤ p → came base p come n ≡ true
  unfolding came
  came-past l m = rw (le-ltb n base l, le-leb n p m)

  pub came-ahead : base ≤ n → p < n → came base p come n ≡ get_or come (n - suc p) false
  unfolding came
  came-ahead l m = rw (le-ltb n base l, lt-leb n p m)

-- ---- the line's questions

pub offset-line : (k : Keeping) (t : ℕ) → offset_of line k t ≡ t - k.point.0
unfolding offset_of far
offset-line k t = go (dec_le k.point.0 t)
  where
    go : Dec (k.point.0 ≤ t) → offset_of line k t ≡ t - k.point.0
    go (yes l) = rw (le-leb k.point.0 t l)
    go (no l) = rw (lt-leb k.point.0 t (omega arith)) (omega arith)

pub come-past : (k : Keeping) (t : ℕ) → t ≤ k.point.0 → is_come line k t ≡ false
unfolding is_come
come-past k t l = rw (lt-ltb (offset_of line k t) 1 (omega (arith, offset-line k t)))

pub come-ahead : (k : Keeping) (t : ℕ) → k.point.0 < t → is_come line k t ≡ get_or k.come (t - suc k.point.0) false
unfolding is_come
come-ahead k t l =
    let e : t - k.point.0 - 1 ≡ t - suc k.point.0 = omega arith in
    rw (offset-line k t, le-ltb (t - k.point.0) 1 (omega arith), e)

-- ---- the invariant

-- what holds of a receiver on the line after any run: p is its point, and a number is gone once its message was taken
pub record LineSound (P : Profile) (base : ℕ) (chunk : ℕ → Chunk) (size : ℕ → ℕ) (p : ℕ) (come : List Bool) (hs : List Held) (next : List Ssn) (gone : ℕ → ℕ) (least : ℕ) : Type 0 where
  pub held-long : length hs ≡ P.places
  pub come-long : length come ≡ P.places
  pub next-long : length next ≡ P.streams
  -- what is held is the sender's
  pub real : All (Real base chunk size) hs
  pub start : base ≤ suc p
  -- each number that has come is held once or gone, and no other is
  pub once : (n : ℕ) → copies hs n + gone n ≡ bit (came base p come n)
  -- the highest offset come, and the held that are not above the point, are no more than the places
  pub room : (d : ℕ) → get_or come d false ≡ true → d + 1 + below hs (suc p) ≤ P.places
  -- the least number that is not gone; nothing gone lies above it by the number of places or more
  pub from : base ≤ least
  pub stays : gone least ≡ 0
  pub lower : (n : ℕ) → base ≤ n → n < least → gone n ≡ 1
  pub upper : (n : ℕ) → 0 < gone n → n < least + P.places
  -- messages go whole, and those of a stream in order
  pub whole : (n : ℕ) → base ≤ n → (chunk n).end ≡ false → gone (suc n) ≡ gone n
  pub order : (n : ℕ) → base ≤ n → (chunk n).begin ≡ true → (chunk n).unordered ≡ false
      → gone n ≡ bit (ltb (chunk n).ssn.0 (get_or next (chunk n).stream.0 ssn0).0)

module _ {P : Profile} {base streams : ℕ} {chunk : ℕ → Chunk} {size : ℕ → ℕ} {p : ℕ} {come : List Bool} {hs : List Held} {next : List Ssn} {gone : ℕ → ℕ} {least : ℕ}
    (send : HonestSender P base streams chunk) (s : LineSound P base chunk size p come hs next gone least) where
  -- a number that is held or gone lies from base on, and above the point by no more than the places
  pub came-within : (n : ℕ) → 0 < bit (came base p come n) → (base ≤ n) × (n ≤ p + P.places)
  came-within n h = go (dec_lt n base) (dec_le n p) (dec_le n (p + P.places))
    where
      go : Dec (n < base) → Dec (n ≤ p) → Dec (n ≤ p + P.places) → (base ≤ n) × (n ≤ p + P.places)
      go (yes l) m k = absurd (omega (arith, ap bit (came-before base p come n l)))
      go (no l) (yes m) k = (omega arith, omega arith)
      go (no l) (no m) (yes k) = (omega arith, k)
      go (no l) (no m) (no k) =
          absurd
          (omega
          (arith, ap bit (came-ahead base p come n (omega arith) (omega arith) ∙ get_or-eq_default come false {n = n - suc p} (omega (arith, s.come-long)))))

  -- above the point: within what the room leaves
  pub came-room : (n : ℕ) → p < n → 0 < bit (came base p come n) → n + below hs (suc p) ≤ p + P.places
  came-room n l h = go (get_or come (n - suc p) false) refl
    where
      go : (t : Bool) → get_or come (n - suc p) false ≡ t → n + below hs (suc p) ≤ p + P.places
      go true e = omega (arith, s.room (n - suc p) e)
      go false e = absurd (omega (arith, ap bit (came-ahead base p come n (omega (arith, came-within n h)) l ∙ e)))

  -- what is held is neither below the least that is not gone, nor far above the point
  pub held-within : (n : ℕ) → 1 ≤ copies hs n → (least ≤ n) × (n ≤ p + P.places)
  held-within n h =
      let w = came-within n (omega (arith, s.once n)) in
      (go (dec_lt n least), w.1)
    where
      go : Dec (n < least) → least ≤ n
      go (yes l) =
          absurd (omega (arith, s.once n, bit_le (came base p come n), s.lower n (came-within n (omega (arith, s.once n))).0 l))
      go (no l) = omega arith

  -- the point is not far above the least that is not gone
  pub point-within : p < least + (P.places + P.places)
  point-within = go (dec_lt p (least + P.places))
    where
      go : Dec (p < least + P.places) → p < least + (P.places + P.places)
      go (yes l) = omega arith
      go (no l) =
          let e : least + P.places + (suc p - (least + P.places)) ≡ suc p = omega arith in
          let r : below hs (least + P.places) + (suc p - (least + P.places)) ≤ below hs (suc p)
          = rw e at (below-run hs (least + P.places) (suc p - (least + P.places)) held) in
          omega (arith, r, below-le hs (suc p), s.held-long)
        where
          held : (j : ℕ) → least + P.places ≤ j → j < least + P.places + (suc p - (least + P.places)) → 1 ≤ copies hs j
          held j a b = no-gone (dec_lt 0 (gone j))
            where
              no-gone : Dec (0 < gone j) → 1 ≤ copies hs j
              no-gone (yes g) = absurd (omega (arith, s.upper j g))
              no-gone (no g) = omega (arith, s.once j, ap bit (came-past base p come j (omega (arith, s.from)) (omega arith)))

  -- low is what is held at or below the point
  pub low_below : (k : Keeping) → k.point.0 ≡ p → k.come ≡ come → count (is_low line k) hs ≡ below hs (suc p)
  unfolding below is_low
  low_below k ep ec = same hs (all_held hs (λ n h. each n (omega (arith, s.once n))))
    where
      each : (n : ℕ) → 0 < bit (came base p come n) → not (is_come line k n) ≡ ltb n (suc p)
      each n h = go (dec_le n p)
        where
          go : Dec (n ≤ p) → not (is_come line k n) ≡ ltb n (suc p)
          go (yes l) = rw (come-past k n (omega arith)) (sym (lt-ltb n (suc p) (omega arith)))
          go (no l) = flag (get_or come (n - suc p) false) refl
            where
              q : is_come line k n ≡ get_or come (n - suc p) false
              q =
                  come-ahead k n (omega arith)
                  ∙ (ap (λ (c : List Bool). get_or c (n - suc k.point.0) false) ec ∙ ap (λ (x : ℕ). get_or come (n - suc x) false) ep)

              flag : (t : Bool) → get_or come (n - suc p) false ≡ t → not (is_come line k n) ≡ ltb n (suc p)
              flag true e = rw (q, e) (sym (le-ltb n (suc p) (omega arith)))
              flag false e = absurd (omega (arith, ap bit (came-ahead base p come n (came-within n h).0 (omega arith) ∙ e)))

      same : (xs : List Held) → All (λ (x : Held). x.used ≡ true → not (is_come line k x.tsn.0) ≡ ltb x.tsn.0 (suc p)) xs
          → count (is_low line k) xs ≡ count (is_below (suc p)) xs
      same [] w = refl
      same (x ∷ xs) w =
          let e : is_low line k x ≡ is_below (suc p) x = if-so false x.used w.0 in
          rw (e, same xs w.1)

  -- ---- what is held is near

  -- the first chunk of the message that n belongs to
  pub record Begins (n : ℕ) : Type 0 where
    pub at : ℕ
    pub low : base ≤ at
    pub high : at ≤ n
    pub opens-it : (chunk at).begin ≡ true
    pub same-stream : (chunk at).stream.0 ≡ (chunk n).stream.0
    pub kind : (chunk at).unordered ≡ (chunk n).unordered
    pub ssn : (chunk n).unordered ≡ false → (chunk at).ssn.0 ≡ (chunk n).ssn.0
    pub alike : gone at ≡ gone n

  pub begins : (k n : ℕ) → n ≡ base + k → Begins n
  begins zero n e =
      let q : n ≡ base = omega arith in
      record { at = n; low = omega arith; high = omega arith; opens-it = rw q send.begins; same-stream = refl; kind = refl; ssn = λ u. refl; alike = refl }
  begins (suc k) n e = rw q (go (chunk m).end refl (begins k m refl))
    where
      m : ℕ
      m = base + k

      q : n ≡ suc m
      q = e ∙ add-suc base k

      go : (t : Bool) → (chunk m).end ≡ t → Begins m → Begins (suc m)
      go true t w = record {
        at = suc m;
        low = omega arith;
        high = omega arith;
        opens-it = send.parts m (omega arith) ∙ t;
        same-stream = refl;
        kind = refl;
        ssn = λ u. refl;
        alike = refl;
      }
      go false t w = record {
        at = w.at;
        low = w.low;
        high = omega (arith, w.high);
        opens-it = w.opens-it;
        same-stream = w.same-stream ∙ sym (send.one-stream m (omega arith) t);
        kind = w.kind ∙ sym (send.one-kind m (omega arith) t);
        ssn = λ u. let v : (chunk m).unordered ≡ false = sym (send.one-kind m (omega arith) t) ∙ u in w.ssn v ∙ sym (send.one-ssn m (omega arith) t v);
        alike = w.alike ∙ sym (s.whole m (omega arith) t);
      }

  abbrev expected : ℕ → ℕ
  expected t = (get_or next t ssn0).0

  -- what starts below the least that is not gone is expected no more
  pub expected-least : (t n : ℕ) → n ≤ least → ordinal base chunk t n ≤ expected t
  expected-least t zero l = omega (arith, ordinal-zero base chunk t)
  expected-least t (suc n) l = go (starts base chunk t n) refl (expected-least t n (omega arith))
    where
      go : (b : Bool) → starts base chunk t n ≡ b → ordinal base chunk t n ≤ expected t → ordinal base chunk t (suc n) ≤ expected t
      go false e ih = omega (arith, ordinal-suc base chunk t n, ap bit e)
      go true e ih =
          let w = starts_is base chunk t n e in
          let g : expected (chunk n).stream.0 ≡ expected t = ap expected w.3 in
          let o : ordinal base chunk (chunk n).stream.0 n ≡ ordinal base chunk t n = ap (λ (x : ℕ). ordinal base chunk x n) w.3 in
          let i : (chunk n).ssn.0 < expected (chunk n).stream.0 = bit-lt _ _ (sym (s.order n w.0 w.1 w.2) ∙ s.lower n w.0 l) in
          omega (arith, ordinal-suc base chunk t n, ap bit e, send.in_order n w.0 w.1 w.2)

  pub near-ssn : (k : ℕ) → Wide P k → (n : ℕ) → 1 ≤ copies hs n → (chunk n).unordered ≡ false → NearerThan k (expected (chunk n).stream.0) (chunk n).ssn.0
  near-ssn j wide n h u =
      let c = came-within n (omega (arith, s.once n)) in
      let w = begins (n - base) n (omega arith) in
      let v = held-within n h in
      let k : (chunk w.at).unordered ≡ false = w.kind ∙ u in
      let g : gone w.at ≡ 0 = omega (arith, w.alike, s.once n, bit_le (came base p come n)) in
      let f : least ≤ w.at = not_lower w.at w.low g in
      let o : (chunk w.at).ssn.0 ≡ ordinal base chunk (chunk w.at).stream.0 w.at = send.in_order w.at w.low w.opens-it k in
      let x : expected (chunk w.at).stream.0 ≤ (chunk w.at).ssn.0 = bit-ge _ _ (sym (s.order w.at w.low w.opens-it k) ∙ g) in
      let t = (chunk w.at).stream.0 in
      let e : least + (w.at - least) ≡ w.at = omega arith in
      let y : ordinal base chunk t w.at ≤ ordinal base chunk t least + (w.at - least)
      = rw e at (ordinal-slow base chunk t least (w.at - least)) in
      let q : expected t ≡ expected (chunk n).stream.0 = ap expected w.same-stream in
      omega (arith, expected-least t least (omega arith), w.ssn u, w.high, point-within)
    where
      not_lower : (m : ℕ) → base ≤ m → gone m ≡ 0 → least ≤ m
      not_lower m l g = go (dec_lt m least)
        where
          go : Dec (m < least) → least ≤ m
          go (yes k) = absurd (omega (arith, s.lower m l k))
          go (no k) = omega arith

  -- for circles that are wide enough
  pub near : (h k : ℕ) → Wide P h → Wide P k → All (NearHeld h k p next) hs
  near h k lh lk = all_both hs (all_held hs (λ n c. (held-within n c, c))) s.real
    where
      all_both : (xs : List Held)
          → All (λ (x : Held). x.used ≡ true → ((least ≤ x.tsn.0) × (x.tsn.0 ≤ p + P.places)) × (1 ≤ copies hs x.tsn.0)) xs
          → All (Real base chunk size) xs → All (NearHeld h k p next) xs
      all_both [] v w = tt
      all_both (x ∷ xs) v w = (record { tsn = t; ssn = o }, all_both xs v.1 w.1)
        where
          t : x.used ≡ true → NearerThan h p x.tsn.0
          t u = omega (arith, v.0 u, point-within)

          o : x.used ≡ true → x.unordered ≡ false → NearerThan k (get_or next x.stream.0 ssn0).0 x.ssn.0
          o u f =
              let e : x ≡ as_held (chunk x.tsn.0) (size x.tsn.0) = (w.0 u).1 in
              let g : (chunk x.tsn.0).unordered ≡ false = sym (ap (λ (y : Held). y.unordered) e) ∙ f in
              let a : x.stream.0 ≡ (chunk x.tsn.0).stream.0 = ap (λ (y : Held). y.stream.0) e in
              let b : x.ssn.0 ≡ (chunk x.tsn.0).ssn.0 = ap (λ (y : Held). y.ssn.0) e in
              let m = near-ssn k lk x.tsn.0 (v.0 u).1 g in
              let q : expected x.stream.0 ≡ expected (chunk x.tsn.0).stream.0 = ap expected a in
              omega arith
