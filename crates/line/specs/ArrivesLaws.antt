-- An arrival keeps the line receiver sound.
-- Assumes nothing.
use Prim.Native.Nat.{ℕ, suc, ◌+◌, ◌-◌, ◌<◌, ◌≤◌}
use Rattle.std.specs.Prelude.{◌≡◌, Bool, true, length, set, eqb, ltb, Option, Some, None}
use Rattle.std.proofs.Math.Path.{refl, ap, subst}
use Rattle.std.proofs.Common.{sym, ◌∙◌, zero-add, arith, le-ltb, eq-eqb, ne_eqb, length-set, get_or-set_same, get_or-set_other}
use Rattle.std.proofs.Math.Bool.{false}
use mathlib.Core.List.{List}
use Rattle.std.proofs.Math.Decide.{dec_lt, dec_le, ℕ_discrete}
use Rattle.std.proofs.lemmas.Bool.{not-true}
use Rattle.std.proofs.Math.ListN.{get_or}
use mir.Val.{bool_byte as bit}
use Rattle.scans.specs.Scan.{pick, any, find_from, bit_le, find-within}
use Rattle.scans.specs.CountsLaws.{count_set}
use Rattle.scans.specs.Each.{all_set, clash, neither, found-at}
use Rattle.numbers.specs.declared.circle.Tsn.{Tsn}
use Rattle.numbers.specs.declared.circle.Ssn.{Ssn}
use Rattle.numbers.specs.declared.circle.Judgement.{Judgement}
use Rattle.numbers.specs.declared.circle.Judgement.TheVariants.{AtOrBehind, AheadWithin, AheadBeyond, AtOpposite}
use Rattle.numbers.specs.declared.keeping.Keeping.{Keeping}
use Rattle.numbers.specs.Numbering.{line, lines, on}
use Rattle.numbers.specs.Profile.{Profile}
use Rattle.numbers.specs.Come.{run, shift}
use Rattle.numbers.specs.ComeLaws.{run-at, shift-at, length_shift}
use Rattle.numbers.specs.Keeping.{offset_of, is_come, with_come, keeping_settled, marked_come, listed}
use Rattle.numbers.specs.KeepingLaws.{OffsetSays, judged-offset, listed-point}
use Rattle.holding.specs.declared.held.Chunk.{Chunk}
use Rattle.holding.specs.declared.held.Held.{Held}
use Rattle.holding.specs.Held.{no_held, as_held, holds, holds-is, holds-unused, is_held_free}
use Rattle.delivery.specs.declared.receiving.Receiving.{Receiving}
use Rattle.delivery.specs.declared.arrival.Verdict.{Verdict}
use Rattle.delivery.specs.declared.arrival.Verdict.TheVariants.{Kept, Empty, Long, Opposite, Duplicate, Wedged, Far, Stray, Clashing}
use Rattle.delivery.specs.Receiving.{low_of}
use Rattle.delivery.specs.Arrival.{verdict_number, is_opposite, is_old, is_beyond, is_repeat, is_wedged, judgement_of, verdict_of, duplicate_noted, kept_in, receiving_after, arrived, kept_at_place}
use Rattle.delivery.specs.ArrivalLaws.{kept-coming}
use Rattle.line.specs.Runs.{copies}
use Rattle.line.specs.CountLaws.{below, is_below, below_suc, below_span, below-le, full-below, copies-set}
use Rattle.line.specs.Sender.{HonestSender}
use Rattle.line.specs.ChosenLaws.{Real, holds-eqb}
use Rattle.line.specs.ContradictionsLaws.{never-contradicted}
use Rattle.line.specs.LineSoundLaws.{LineSound, came, came-before, came-past, came-ahead, came-room, low_below, offset-line, come-ahead}

-- ---- what has come, before and after

-- moving the point past a run changes nothing
settle-came : (base p : ℕ) (come : List Bool) (m : ℕ) → came base (p + run come) (shift (run come) come) m ≡ came base p come m
settle-came base p come m = go (dec_lt m base) (dec_le m p) (dec_le m (p + run come))
  where
    go : Dec (m < base) → Dec (m ≤ p) → Dec (m ≤ p + run come) → came base (p + run come) (shift (run come) come) m ≡ came base p come m
    go (yes l) a b = came-before base (p + run come) _ m l ∙ sym (came-before base p come m l)
    go (no l) (yes a) b = came-past base (p + run come) _ m (omega arith) (omega arith) ∙ sym (came-past base p come m (omega arith) a)
    go (no l) (no a) (yes b) =
        came-past base (p + run come) _ m (omega arith) b
        ∙ sym (came-ahead base p come m (omega arith) (omega arith) ∙ run-at come (m - suc p) (omega arith))
    go (no l) (no a) (no b) =
        let e : run come + (m - suc (p + run come)) ≡ m - suc p = omega arith in
        came-ahead base (p + run come) _ m (omega arith) (omega arith)
        ∙ (shift-at (run come) come (m - suc (p + run come))
        ∙ (ap (λ (x : ℕ). get_or come x false) e ∙ sym (came-ahead base p come m (omega arith) (omega arith))))

-- a flag set adds its number
mark-came : (base p : ℕ) (come : List Bool) (n m : ℕ) → base ≤ n → p < n → n - suc p < length come → get_or come (n - suc p) false ≡ false
    → bit (came base p (set come (n - suc p) true) m) ≡ bit (came base p come m) + bit (eqb n m)
mark-came base p come n m lb lp ll f = go (dec_lt m base) (dec_le m p) (ℕ_discrete n m)
  where
    new : List Bool
    new = set come (n - suc p) true

    go : Dec (m < base) → Dec (m ≤ p) → Dec (n ≡ m) → bit (came base p new m) ≡ bit (came base p come m) + bit (eqb n m)
    go (yes l) a b = rw (came-before base p new m l, came-before base p come m l, ne_eqb n m (λ e. omega arith))
    go (no l) (yes a) b =
        rw (came-past base p new m (omega arith) a, came-past base p come m (omega arith) a, ne_eqb n m (λ e. omega arith))
    go (no l) (no a) (yes e) =
        let q : came base p new m ≡ true
        = came-ahead base p new m (omega arith) (omega arith)
        ∙ (ap (λ (x : ℕ). get_or new (x - suc p) false) (sym e) ∙ get_or-set_same come (n - suc p) true false ll) in
        let r : came base p come m ≡ false
        = came-ahead base p come m (omega arith) (omega arith) ∙ (ap (λ (x : ℕ). get_or come (x - suc p) false) (sym e) ∙ f) in
        rw (q, r, eq-eqb n m e)
    go (no l) (no a) (no e) =
        let ne : m - suc p ≡ n - suc p → ⊥ = λ q. e (omega arith) in
        let q : came base p new m ≡ came base p come m
        = came-ahead base p new m (omega arith) (omega arith)
        ∙ (get_or-set_other come (n - suc p) (m - suc p) true false ne ∙ sym (came-ahead base p come m (omega arith) (omega arith))) in
        rw (q, ne_eqb n m e) (omega arith)

-- ---- a chunk is kept

module _ {P : Profile} {base streams : ℕ} {chunk : ℕ → Chunk} {size : ℕ → ℕ} {p : ℕ} {come : List Bool} {hs : List Held} {next : List Ssn} {gone : ℕ → ℕ} {least : ℕ}
    (send : HonestSender P base streams chunk) (s : LineSound P base chunk size p come hs next gone least)
    (n : ℕ) (lb : base ≤ n) (lp : p < n) (flag : get_or come (n - suc p) false ≡ false) (fits : n - p ≤ P.places - below hs (suc p)) where
  abbrev low : ℕ
  low = below hs (suc p)

  not-come : copies hs n + gone n ≡ 0
  not-come = s.once n ∙ ap bit (came-ahead base p come n lb lp ∙ flag)

  single : (j : ℕ) → copies hs j ≤ 1
  single j = omega (arith, s.once j, bit_le (came base p come j))

  -- it finds a free place
  has-place : find_from is_held_free 0 hs ≡ None → ⊥
  has-place e =
      let a : ℕ = suc p + (P.places - low) in
      let x : suc p + (n - suc p) ≡ n = omega arith in
      let y : suc n + (a - suc n) ≡ a = omega arith in
      let u : below hs n ≤ low + (n - suc p) = rw x at (below_span hs (suc p) (n - suc p) single) in
      let v : below hs a ≤ below hs (suc n) + (a - suc n) = rw y at (below_span hs (suc n) (a - suc n) single) in
      let f : below hs a ≡ length hs = full-below hs 0 a e none_above in
      omega (arith, below_suc hs n, not-come, s.held-long)
    where
      low-le : low ≤ P.places
      low-le = omega (arith, below-le hs (suc p), s.held-long)

      none_above : (m : ℕ) → suc p + (P.places - low) ≤ m → copies hs m ≡ 0
      none_above m l = go (dec_lt 0 (copies hs m))
        where
          go : Dec (0 < copies hs m) → copies hs m ≡ 0
          go (yes h) = absurd (omega (arith, low-le, came-room send s m (omega arith) (omega (arith, s.once m))))
          go (no h) = omega arith

  module _ (i : ℕ) (free : find_from is_held_free 0 hs ≡ Some i) where
    abbrev new : List Bool
    new = set come (n - suc p) true

    abbrev hs' : List Held
    hs' = set hs i (as_held (chunk n) (size n))

    here : i < length hs
    here = rw (zero-add (length hs)) at (find-within is_held_free hs 0 i free)

    empty : (get_or hs i no_held).used ≡ false
    empty = not-true (get_or hs i no_held).used (found-at is_held_free no_held hs i free)

    copies' : (m : ℕ) → copies hs' m ≡ copies hs m + bit (eqb n m)
    copies' m =
        let a : bit (holds m (get_or hs i no_held)) ≡ 0 = ap bit (holds-unused m (get_or hs i no_held) empty) in
        let b : bit (holds m (as_held (chunk n) (size n))) ≡ bit (eqb n m)
        = ap bit (holds-eqb n m (as_held (chunk n) (size n)) (holds-is n (as_held (chunk n) (size n)) refl (send.number n lb))) in
        omega (arith, copies-set hs i (as_held (chunk n) (size n)) m here)

    once' : (m : ℕ) → copies hs' m + gone m ≡ bit (came base (p + run new) (shift (run new) new) m)
    once' m =
        rw (settle-came base p new m)
        (omega (arith, copies' m, s.once m, mark-came base p come n m lb lp (omega (arith, s.come-long)) flag))

    low' : below hs' (suc p) ≡ below hs (suc p)
    unfolding below
    low' =
        let a : bit (is_below (suc p) (get_or hs i no_held)) ≡ 0 = rw empty in
        let c : suc p ≤ (chunk n).tsn.0 = omega (arith, send.number n lb) in
        let b : bit (is_below (suc p) (as_held (chunk n) (size n))) ≡ 0 = rw (le-ltb (chunk n).tsn.0 (suc p) c) in
        omega (arith, count_set (is_below (suc p)) no_held hs i (as_held (chunk n) (size n)) here)

    room' : (d : ℕ) → get_or (shift (run new) new) d false ≡ true → d + 1 + below hs' (suc (p + run new)) ≤ P.places
    room' d e =
        let x : suc p + run new ≡ suc (p + run new) = omega arith in
        let b : below hs' (suc (p + run new)) ≤ below hs' (suc p) + run new
        = rw x at (below_span hs' (suc p) (run new) (λ j. omega (arith, once' j, bit_le (came base (p + run new) (shift (run new) new) j)))) in
        omega (arith, low', was (ℕ_discrete (run new + d) (n - suc p)))
      where
        was : Dec (run new + d ≡ n - suc p) → run new + d + 1 + below hs (suc p) ≤ P.places
        was (yes q) = omega (arith, below-le hs (suc p), s.held-long)
        was (no q) =
            s.room (run new + d)
            (sym (get_or-set_other come (n - suc p) (run new + d) true false q) ∙ (sym (shift-at (run new) new d) ∙ e))

    pub kept : LineSound P base chunk size (p + run new) (shift (run new) new) hs' next gone least
    kept = record {
      held-long = length-set hs i (as_held (chunk n) (size n)) ∙ s.held-long;
      come-long = length_shift (run new) new ∙ (length-set come (n - suc p) true ∙ s.come-long);
      next-long = s.next-long;
      real = all_set (Real base chunk size) hs i (as_held (chunk n) (size n)) (λ u. (omega (arith, send.number n lb), ap (λ (x : ℕ). as_held (chunk x) (size x)) (sym (send.number n lb)))) s.real;
      start = omega (arith, s.start);
      once = once';
      room = room';
      from = s.from;
      stays = s.stays;
      lower = s.lower;
      upper = s.upper;
      whole = s.whole;
      order = s.order;
    }

-- ---- the verdict

-- what was judged to be ahead and within is so
judged-within : (j : Judgement) (room o : ℕ) → OffsetSays room o j → is_opposite j ≡ false → is_old j ≡ false → is_beyond j ≡ false → (1 ≤ o) × (o ≤ room)
judged-within AtOrBehind room o w x a b = clash (sym a)
judged-within (AheadWithin d) room o w x a b = (omega (arith, w), omega (arith, w))
judged-within (AheadBeyond d) room o w x a b = clash (sym b)
judged-within AtOpposite room o w x a b = clash (sym x)

-- where the last two checks are passed, neither 14 nor 21 is answered
never-last : (a b x c d e f : Bool) (v : Verdict) → 14 ≤ verdict_number v → verdict_number v ≤ 21
    → pick a Empty (pick b Long (pick x Opposite (pick c Duplicate (pick d Duplicate (pick e Wedged (pick f Far Kept)))))) ≡ v → ⊥
never-last true b x c d e f v l m q = omega (arith, ap verdict_number q)
never-last false true x c d e f v l m q = omega (arith, ap verdict_number q)
never-last false false true c d e f v l m q = omega (arith, ap verdict_number q)
never-last false false false true d e f v l m q = omega (arith, ap verdict_number q)
never-last false false false false true e f v l m q = omega (arith, ap verdict_number q)
never-last false false false false false true f v l m q = omega (arith, ap verdict_number q)
never-last false false false false false false true v l m q = omega (arith, ap verdict_number q)
never-last false false false false false false false v l m q = omega (arith, ap verdict_number q)

marked-is : (P : Profile) (k : Keeping) (t : ℕ) → 1 ≤ offset_of line k t → offset_of line k t ≤ P.places
    → marked_come line P k t ≡ keeping_settled line (with_come k (set k.come (offset_of line k t - 1) true))
unfolding marked_come
marked-is P k t a b = rw (le-ltb (offset_of line k t) 1 a, le-ltb P.places (offset_of line k t) b)

-- ---- the record

-- the invariant `LineSound` of a receiving record
abbrev pub SoundOf : Profile → ℕ → (ℕ → Chunk) → (ℕ → ℕ) → Receiving → (ℕ → ℕ) → ℕ → Type 0
SoundOf P base chunk size r gone least = LineSound P base chunk size r.keeping.point.0 r.keeping.come r.held r.next gone least

module _ {P : Profile} {base streams : ℕ} {chunk : ℕ → Chunk} {size : ℕ → ℕ} {gone : ℕ → ℕ} {least : ℕ} (send : HonestSender P base streams chunk)
    (r : Receiving) (s : SoundOf P base chunk size r gone least) (n : ℕ) (lb : base ≤ n) where
  abbrev pt : ℕ
  pt = r.keeping.point.0

  abbrev t : ℕ
  t = (chunk n).tsn.0

  abbrev c : Held
  c = as_held (chunk n) (size n)

  -- it is held once
  keep-case : verdict_of lines P r c streams ≡ Kept → SoundOf P base chunk size (receiving_after line P r c Kept) gone least × (copies (receiving_after line P r c Kept).held n ≡ 1)
  unfolding is_repeat judgement_of keeping_settled on low_of kept_at_place
  keep-case e =
      let v = (kept-coming lines P r c streams e).0 in
      let low : ℕ = low_of line r in
      let o = judged-within (judgement_of line P r t) (P.places - low) (offset_of line r.keeping t) (judged-offset line r.keeping (P.places - low) t (judgement_of line P r t) refl) v.sided v.new v.near in
      let b = (neither (is_come line r.keeping t) (any (holds t) r.held) v.first).0 in
      let lt : pt < t = omega (arith, offset-line r.keeping t, o) in
      let f : get_or r.keeping.come (n - suc pt) false ≡ false
      = ap (λ (x : ℕ). get_or r.keeping.come (x - suc pt) false) (sym (send.number n lb)) ∙ (sym (come-ahead r.keeping t lt) ∙ b) in
      let fits : n - pt ≤ P.places - below r.held (suc pt)
      = omega (arith, o, send.number n lb, offset-line r.keeping t, low_below send s r.keeping refl refl) in
      go (marked-is P r.keeping t o.0 (omega (arith, o))) (omega (arith, send.number n lb)) f fits (find_from is_held_free 0 r.held) refl
    where
      q : offset_of line r.keeping t - 1 ≡ n - suc pt
      q = omega (arith, send.number n lb, offset-line r.keeping t)

      come : List Bool
      come = set r.keeping.come (offset_of line r.keeping t - 1) true

      go : marked_come line P r.keeping t ≡ keeping_settled line (with_come r.keeping come) → pt < n → get_or r.keeping.come (n - suc pt) false ≡ false → n - pt ≤ P.places - below r.held (suc pt)
          → (f : Option ℕ) → find_from is_held_free 0 r.held ≡ f
          → SoundOf P base chunk size (kept_in line P r c f) gone least × (copies (kept_in line P r c f).held n ≡ 1)
      go m lp fl fits None e = absurd (has-place send s n lb lp fl fits e)
      go m lp fl fits (Some i) e = (
        subst (λ (y : Keeping). LineSound P base chunk size y.point.0 y.come (set r.held i c) r.next gone least) (sym m)
            (subst
            (λ (x : ℕ). LineSound P base chunk size (pt + run (set r.keeping.come x true)) (shift (run (set r.keeping.come x true)) (set r.keeping.come x true)) (set r.held i c) r.next gone least)
            (sym q) (kept send s n lb lp fl fits i e)),
        omega (arith, copies' send s n lb lp fl fits i e n, not-come send s n lb lp fl fits, ap bit (eq-eqb n n refl)),
      )

  dup-case : SoundOf P base chunk size (receiving_after line P r c Duplicate) gone least
  unfolding duplicate_noted
  dup-case =
      let w = listed-point P r.keeping (chunk n).tsn in
      subst (λ (x : Tsn). LineSound P base chunk size x.0 (listed P r.keeping (chunk n).tsn).come r.held r.next gone least) (sym w.0)
      (subst (λ (x : List Bool). LineSound P base chunk size pt x r.held r.next gone least) (sym w.1) s)

  -- a chunk of the sender is of an agreed stream, and contradicts none that is held
  last-case : (v : Verdict) → 14 ≤ verdict_number v → verdict_number v ≤ 21 → verdict_of lines P r c streams ≡ v → ⊥
  unfolding verdict_of
  last-case v l m e =
      never-last (ltb (size n) 1) (ltb P.payload (size n)) (is_opposite (judgement_of line P r t)) (is_old (judgement_of line P r t))
      (is_repeat line r.keeping r.held t) (is_wedged lines P (low_of line r) r.held r.next pt) (is_beyond (judgement_of line P r t)) v l m
      (rw (send.agreed n lb, never-contradicted send size r.held s.real n (size n) lb) at e)

  after-case : (v : Verdict) → verdict_of lines P r c streams ≡ v → SoundOf P base chunk size (receiving_after line P r c v) gone least
  after-case Kept e = (keep-case e).0
  after-case Empty e = s
  after-case Long e = s
  after-case Opposite e = s
  after-case Duplicate e = dup-case
  after-case Wedged e = s
  after-case Far e = s
  after-case Stray e = absurd (last-case Stray (omega arith) (omega arith) e)
  after-case Clashing e = s

  pub arrived-line-sound : SoundOf P base chunk size (arrived lines P r c streams).receiving gone least
  unfolding arrived
  arrived-line-sound = after-case (verdict_of lines P r c streams) refl

  pub kept-once : verdict_of lines P r c streams ≡ Kept → copies (arrived lines P r c streams).receiving.held n ≡ 1
  unfolding arrived
  kept-once e = ap (λ (v : Verdict). copies (receiving_after line P r c v).held n) e ∙ (keep-case e).1

  pub not-clashing : verdict_of lines P r c streams ≡ Clashing → ⊥
  not-clashing = last-case Clashing (omega arith) (omega arith)
