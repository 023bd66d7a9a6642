-- The laws of receiving: a fresh record is within its bounds and every call keeps it so; a chunk that passes the checks finds a free place; a
-- number that has come is answered 11 from then on, and 24 where it is opposite; a refused call leaves all but what 01's table names. Over either numbering.
-- Assumes nothing.
use Rattle.std.specs.Prelude.{ℕ, zero, suc, ◌+◌, ◌-◌, ◌<◌, ◌≤◌, ◌≡◌, Bool, not, List, [], ◌∷◌, ◌⊎◌, length, set, replicate, get_or, ltb, eqb, Option, Some, None}
use Rattle.std.proofs.Math.Path.{refl, ap, subst}
use Rattle.std.proofs.Common.{sym, ◌∙◌, inl, inr, ⊎_elim, arith, zero-add, le-ltb}
use Rattle.std.proofs.Math.Bool.{true, false}
use Rattle.std.proofs.Math.Decide.{dec_lt, dec_le}
use Rattle.std.proofs.lemmas.Bool.{not-true}
use Rattle.std.proofs.Math.ListN.{length-set, length-replicate}
use Rattle.numbers.specs.declared.circle.Tsn.{Tsn}
use Rattle.numbers.specs.declared.circle.Judgement.{Judgement}
use Rattle.numbers.specs.declared.circle.Judgement.TheVariants.{AtOrBehind, AheadWithin, AheadBeyond, AtOpposite}
use Rattle.numbers.specs.declared.keeping.Keeping.{Keeping}
use Rattle.numbers.specs.Circle.{ssn0}
use Rattle.numbers.specs.Numbering.{Numbering, Numberings}
use Rattle.numbers.specs.Profile.{Profile, agreed-below}
use Rattle.numbers.specs.Judgement.{judged}
use Rattle.numbers.specs.Keeping as keeping
use Rattle.numbers.specs.ReachLaws.{On, Short}
use Rattle.numbers.specs.KeepingLaws as number
use Rattle.numbers.specs.KeepingRoomLaws.{count-numbers, any-numbers, length-numbers, all-numbers, is_late, is_among, Distinct, has_room, bound-kept, bound-kept-unheld, count-filled, count-freed, distinct-filled, distinct-freed}
use Rattle.scans.specs.Scan.{pick, tick, count, any, find_from, find-within}
use Rattle.scans.specs.Each.{All, all_set, clash, found-at, if-not}
use Rattle.holding.specs.declared.held.Held.{Held}
use Rattle.holding.specs.declared.taking.Took.{Took}
use Rattle.holding.specs.Held.{no_held, is_held_free, holds, any-holds}
use Rattle.holding.specs.Taking.{emptied, advanced, took, written, take_number}
use Rattle.holding.specs.TakingLaws.{TakeLeaves, same, less, took-leaves, emptied-long, advanced-long, took-refused}
use Rattle.delivery.specs.declared.receiving.Receiving.{Receiving}
use Rattle.delivery.specs.declared.arrival.Verdict.{Verdict}
use Rattle.delivery.specs.declared.arrival.Verdict.TheVariants.{Kept, Empty, Long, Opposite, Duplicate, Wedged, Far, Stray, Clashing}
use Rattle.delivery.specs.Receiving.{fresh_receiving, is_low, low_of, taken_by, taken_into}
use Rattle.delivery.specs.Arrival.{verdict_number, is_opposite, is_old, is_beyond, is_repeat, judgement_of, verdict_of, duplicate_noted, stray_passed, kept_at_place, kept_in, receiving_after, arrived, stored_by, arrival_area}
use Rattle.delivery.specs.ArrivalLaws.{Coming, kept-coming, stray-coming}
use Rattle.delivery.specs.ReceivingSack.{receiving_told, acknowledged_receiving}
use Rattle.delivery.specs.ReceivingBounds.{is_used, number_in, held_numbers, HeldFits, ReceivingSound}

-- ---- what every record has by its type, and every call keeps

pub record ReceivingShaped (T : Numbering) (P : Profile) (r : Receiving) : Type 0 where
  pub numbers : number.KeepingShaped T P r.keeping
  pub long : length r.held ≡ P.places
  pub streams : length r.next ≡ P.streams
  pub each : All (λ (h : Held). h.used ≡ true → On T h.tsn.0) r.held

-- ---- low, by the numbers held

low-late : (T : Numbering) (k : Keeping) (hs : List Held) → count (is_low T k) hs ≡ count (is_late T k) (held_numbers hs)
unfolding is_low
low-late T k hs = count-numbers is_used number_in (is_late T k) hs

low-is : (T : Numbering) (r : Receiving) → low_of T r ≡ count (is_late T r.keeping) (held_numbers r.held)
unfolding low_of
low-is T r = low-late T r.keeping r.held

late-alike : (T : Numbering) (k l : Keeping) (ts : List ℕ) → k.point ≡ l.point → k.come ≡ l.come → count (is_late T k) ts ≡ count (is_late T l) ts
late-alike T k l [] e f = refl
late-alike T k l (t ∷ ts) e f = rw (number.come-alike T k l t e f, late-alike T k l ts e f)

among-is : (t : ℕ) (hs : List Held) → is_among t (held_numbers hs) ≡ any (holds t) hs
among-is t hs = sym (any-holds t hs ∙ any-numbers is_used number_in (λ (y : ℕ). eqb y t) hs)

-- ---- a fresh record

none-held : (n : ℕ) → held_numbers (replicate n no_held) ≡ []
none-held zero = refl
none-held (suc n) = none-held n

module _ (Q : Held → Type 0) where
  all_none : (n : ℕ) → Q no_held → All Q (replicate n no_held)
  all_none zero q = tt
  all_none (suc n) q = (q, all_none n q)

module _ (T : Numbering) (P : Profile) (t : Tsn) where
  pub fresh-receiving-shaped : On T t.0 → ReceivingShaped T P (fresh_receiving T P t)
  unfolding fresh_receiving
  fresh-receiving-shaped h = record {
    numbers = number.fresh-keeping-shaped T P t h;
    long = length-replicate P.places no_held;
    streams = length-replicate P.streams ssn0;
    each = all_none (λ (h : Held). h.used ≡ true → On T h.tsn.0) P.places (λ e. clash e);
  }

  pub fresh-receiving-sound : ReceivingSound T P (fresh_receiving T P t)
  unfolding fresh_receiving
  fresh-receiving-sound = record {
    numbers = number.fresh-bounded T P t;
    fit = all_none (λ (h : Held). h.used ≡ true → HeldFits P h) P.places (λ e. clash e);
    room = omega (arith, number.fresh-highest T P t, low-is T (fresh_receiving T P t), ap (count (is_late T (keeping.fresh_keeping T P t))) (none-held P.places));
    apart = subst Distinct (sym (none-held P.places)) tt;
  }

-- ---- what a verdict says of the number

module _ (T : Numbering) (P : Profile) (r : Receiving) (h : Held) (w : ReceivingShaped T P r) (on : On T h.tsn.0) (wide : Short T (P.places + P.places))
    {streams : ℕ} (c : Coming T P r h streams) where
  -- it lies ahead, within the room that the low chunks leave
  within : (0 < keeping.offset_of T r.keeping h.tsn.0) × (keeping.offset_of T r.keeping h.tsn.0 ≤ P.places - low_of T r)
  unfolding judgement_of
  within = go (judgement_of T P r h.tsn.0) refl c.sided c.new c.near
    where
      go : (j : Judgement) → judgement_of T P r h.tsn.0 ≡ j → is_opposite j ≡ false → is_old j ≡ false → is_beyond j ≡ false
          → (0 < keeping.offset_of T r.keeping h.tsn.0) × (keeping.offset_of T r.keeping h.tsn.0 ≤ P.places - low_of T r)
      go AtOpposite e o a b = clash (sym o)
      go AtOrBehind e o a b = clash (sym a)
      go (AheadBeyond d) e o a b = clash (sym b)
      go (AheadWithin d) e o a b =
          let x = number.judged-offset T r.keeping (P.places - low_of T r) h.tsn.0 (AheadWithin d) e in
          (omega (arith, x.0, x.1), omega (arith, x.0, x.2))

  new-number : (keeping.is_come T r.keeping h.tsn.0 ≡ false) × (any (holds h.tsn.0) r.held ≡ false)
  unfolding is_repeat
  new-number = go (keeping.is_come T r.keeping h.tsn.0) c.first
    where
      go : (t : Bool) → pick t true (any (holds h.tsn.0) r.held) ≡ false → (t ≡ false) × (any (holds h.tsn.0) r.held ≡ false)
      go true e = clash (sym e)
      go false e = (refl, e)

  comes : number.Comes T P r.keeping h.tsn.0
  comes = record {
    point = w.numbers.point;
    number = on;
    wide = wide;
    long = w.numbers.long;
    ahead = within.0;
    near = omega (arith, within.1);
  }

  abbrev ts : List ℕ
  ts = held_numbers r.held

  new-among : is_among h.tsn.0 ts ≡ false
  new-among = among-is h.tsn.0 r.held ∙ new-number.1

  module _ (s : ReceivingSound T P r) where
    low-room : keeping.highest_of r.keeping + count (is_late T r.keeping) ts ≤ P.places
    low-room = omega (arith, s.room, low-is T r)

    low-here : keeping.offset_of T r.keeping h.tsn.0 + count (is_late T r.keeping) ts ≤ P.places
    low-here = omega (arith, within.0, within.1, low-is T r)

    -- the third wrong build: a chunk that passes the checks finds a free place
    some-free : count is_used r.held < length r.held
    some-free =
        omega
        (arith, length-numbers is_used number_in r.held, w.long, has_room T r.keeping w.numbers.point P.places h.tsn.0 ts (all-numbers is_used number_in (On T) r.held w.each) s.apart within.0 new-number.0 low-room low-here)

    pub finds-place : (i : ℕ) × (find_from is_held_free 0 r.held ≡ Some i) × (i < length r.held) × ((get_or r.held i no_held).used ≡ false)
    finds-place = go (find_from is_held_free 0 r.held) refl
      where
        full : (hs : List Held) (i : ℕ) → find_from is_held_free i hs ≡ None → count is_used hs ≡ length hs
        full [] i e = refl
        full (x ∷ hs) i e = used x.used e (full hs (i + 1))
          where
            used : (u : Bool) → pick (not u) (Some i) (find_from is_held_free (i + 1) hs) ≡ None
                → (find_from is_held_free (i + 1) hs ≡ None → count is_used hs ≡ length hs) → tick u (count is_used hs) ≡ suc (length hs)
            used true q ih = ap suc (ih q)
            used false q ih = let z : ◌≡◌ {A = ℕ} 0 1 = cc in absurd (omega arith)

        go : (f : Option ℕ) → find_from is_held_free 0 r.held ≡ f
            → (i : ℕ) × (find_from is_held_free 0 r.held ≡ Some i) × (i < length r.held) × ((get_or r.held i no_held).used ≡ false)
        go None e = absurd (omega (arith, full r.held 0 e, some-free))
        go (Some i) e =
            (i, e, rw (zero-add (length r.held)) at (find-within is_held_free r.held 0 i e), not-true (get_or r.held i no_held).used (found-at is_held_free no_held r.held i e))

    -- the number comes, and nothing is held
    pub passed-sound : ReceivingSound T P (stray_passed T P r h.tsn.0)
    unfolding stray_passed
    passed-sound = record {
      numbers = number.marked-bounded T P r.keeping h.tsn.0 s.numbers;
      fit = s.fit;
      room =
          omega
          (arith, low-is T (stray_passed T P r h.tsn.0), bound-kept-unheld comes ts (all-numbers is_used number_in (On T) r.held w.each) s.apart new-among P.places low-room low-here);
      apart = s.apart;
    }

    -- the chunk is held at a place that was free
    pub kept-sound : (i : ℕ) → i < length r.held → (get_or r.held i no_held).used ≡ false → h.used ≡ true → HeldFits P h → ReceivingSound T P (kept_at_place T P r i h)
    unfolding kept_at_place
    kept-sound i hi free u fit = record {
      numbers = number.marked-bounded T P r.keeping h.tsn.0 s.numbers;
      fit = all_set (λ (x : Held). x.used ≡ true → HeldFits P x) r.held i h (λ e. fit) s.fit;
      room =
          omega
          (arith, low-is T (kept_at_place T P r i h), count-filled is_used number_in (is_late T (keeping.marked_come T P r.keeping h.tsn.0)) r.held i h no_held hi u free, bound-kept comes ts (all-numbers is_used number_in (On T) r.held w.each) s.apart new-among P.places low-room low-here);
      apart = distinct-filled is_used number_in r.held i h no_held hi u free new-among s.apart;
    }

-- ---- every call keeps the bounds, and what a record has by its type

module _ (N : Numberings) (P : Profile) (r : Receiving) (w : ReceivingShaped N.tsn P r) where
  noted-shaped : (t : Tsn) → ReceivingShaped N.tsn P (duplicate_noted P r t)
  unfolding duplicate_noted
  noted-shaped t = record { numbers = number.listed-shaped N.tsn P r.keeping t w.numbers; long = w.long; streams = w.streams; each = w.each }

  passed-shaped : (t : ℕ) → ReceivingShaped N.tsn P (stray_passed N.tsn P r t)
  unfolding stray_passed
  passed-shaped t = record { numbers = number.marked-shaped N.tsn P r.keeping t w.numbers; long = w.long; streams = w.streams; each = w.each }

  kept-shaped : (i : ℕ) (h : Held) → On N.tsn h.tsn.0 → ReceivingShaped N.tsn P (kept_at_place N.tsn P r i h)
  unfolding kept_at_place
  kept-shaped i h on = record {
    numbers = number.marked-shaped N.tsn P r.keeping h.tsn.0 w.numbers;
    long = length-set r.held i h ∙ w.long;
    streams = w.streams;
    each = all_set (λ (x : Held). x.used ≡ true → On N.tsn x.tsn.0) r.held i h (λ e. on) w.each;
  }

  pub arrived-shaped : (h : Held) (streams : ℕ) → On N.tsn h.tsn.0 → ReceivingShaped N.tsn P (arrived N P r h streams).receiving
  unfolding arrived
  arrived-shaped h streams on = go (verdict_of N P r h streams)
    where
      place : (f : Option ℕ) → ReceivingShaped N.tsn P (kept_in N.tsn P r h f)
      place (Some i) = kept-shaped i h on
      place None = passed-shaped h.tsn.0

      go : (v : Verdict) → ReceivingShaped N.tsn P (receiving_after N.tsn P r h v)
      go Kept = place (find_from is_held_free 0 r.held)
      go Duplicate = noted-shaped h.tsn
      go Stray = passed-shaped h.tsn.0
      go Empty = w
      go Long = w
      go Opposite = w
      go Wedged = w
      go Far = w
      go Clashing = w

noted-sound : (T : Numbering) (P : Profile) (r : Receiving) (t : Tsn) → ReceivingSound T P r → ReceivingSound T P (duplicate_noted P r t)
unfolding duplicate_noted
noted-sound T P r t s =
    let p = number.listed-point P r.keeping t in
    record {
      numbers = number.listed-bounded P r.keeping t s.numbers;
      fit = s.fit;
      room =
          omega
          (arith, s.room, low-is T r, low-is T (duplicate_noted P r t), late-alike T (keeping.listed P r.keeping t) r.keeping (held_numbers r.held) p.0 p.1, number.highest-alike (keeping.listed P r.keeping t) r.keeping p.1);
      apart = s.apart;
    }

pub arrived-sound : (N : Numberings) (P : Profile) (r : Receiving) (h : Held) (streams : ℕ) → Short N.tsn (P.places + P.places) → ReceivingShaped N.tsn P r → ReceivingSound N.tsn P r
    → On N.tsn h.tsn.0 → h.used ≡ true → ReceivingSound N.tsn P (arrived N P r h streams).receiving
unfolding arrived
arrived-sound N P r h streams wide w s on u = go (verdict_of N P r h streams) refl
  where
    go : (v : Verdict) → verdict_of N P r h streams ≡ v → ReceivingSound N.tsn P (receiving_after N.tsn P r h v)
    go Kept e =
        let c = kept-coming N P r h streams e in
        let f = finds-place N.tsn P r h w on wide c.0 s in
        let a : HeldFits P h = record { some = c.0.some; small = c.0.fits; stream = agreed-below P h.stream.0 streams c.1 } in
        rw f.1 (kept-sound N.tsn P r h w on wide c.0 s f.0 f.2 f.3 u a)
    go Duplicate e = noted-sound N.tsn P r h.tsn s
    go Stray e = passed-sound N.tsn P r h w on wide (stray-coming N P r h streams e) s
    go Empty e = s
    go Long e = s
    go Opposite e = s
    go Wedged e = s
    go Far e = s
    go Clashing e = s

-- a chunk that passes the checks finds a free place
pub kept-placed : (N : Numberings) (P : Profile) (r : Receiving) (h : Held) (streams : ℕ) → Short N.tsn (P.places + P.places) → ReceivingShaped N.tsn P r → ReceivingSound N.tsn P r
    → On N.tsn h.tsn.0 → verdict_of N P r h streams ≡ Kept
    → (i : ℕ) × (find_from is_held_free 0 r.held ≡ Some i) × (i < length r.held) × ((get_or r.held i no_held).used ≡ false)
kept-placed N P r h streams wide w s on e = finds-place N.tsn P r h w on wide (kept-coming N P r h streams e).0 s

-- ---- a take

module _ (Q : Held → Type 0) (q : Q no_held) where
  all-emptied : (hs : List Held) (is : List ℕ) → All Q hs → All Q (emptied hs is)
  all-emptied hs [] w = w
  all-emptied hs (i ∷ is) w = all-emptied (set hs i no_held) is (all_set Q hs i no_held q w)

emptied-apart : (hs : List Held) (is : List ℕ) → Distinct (held_numbers hs) → Distinct (held_numbers (emptied hs is))
emptied-apart hs [] s = s
emptied-apart hs (i ∷ is) s = emptied-apart (set hs i no_held) is (distinct-freed is_used number_in hs i no_held refl s)

emptied-count : (q : ℕ → Bool) (hs : List Held) (is : List ℕ) → count q (held_numbers (emptied hs is)) ≤ count q (held_numbers hs)
emptied-count q hs [] = omega arith
emptied-count q hs (i ∷ is) = omega (arith, emptied-count q (set hs i no_held) is, count-freed is_used number_in q hs i no_held refl)

module _ (N : Numberings) (P : Profile) (r : Receiving) (room : ℕ) where
  abbrev leaves : Took → Receiving
  leaves t = (taken_by r t).receiving

  pub taken-shaped : ReceivingShaped N.tsn P r → ReceivingShaped N.tsn P (taken_into N P r room).receiving
  unfolding taken_into
  taken-shaped w = go (took N P r.held r.next r.keeping.point.0 room) (took-leaves N P r.held r.next r.keeping.point.0 room)
    where
      go : (t : Took) → TakeLeaves N.ssn r.held r.next t → ReceivingShaped N.tsn P (leaves t)
      go _ (same a) = record { numbers = w.numbers; long = w.long; streams = w.streams; each = w.each }
      go _ (less m is first) = record {
        numbers = w.numbers;
        long = emptied-long r.held is ∙ w.long;
        streams = advanced-long N.ssn r.next first ∙ w.streams;
        each = all-emptied (λ (x : Held). x.used ≡ true → On N.tsn x.tsn.0) (λ e. clash e) r.held is w.each;
      }

  pub taken-sound : ReceivingSound N.tsn P r → ReceivingSound N.tsn P (taken_into N P r room).receiving
  unfolding taken_into
  taken-sound s = go (took N P r.held r.next r.keeping.point.0 room) (took-leaves N P r.held r.next r.keeping.point.0 room)
    where
      go : (t : Took) → TakeLeaves N.ssn r.held r.next t → ReceivingSound N.tsn P (leaves t)
      go _ (same a) = record { numbers = s.numbers; fit = s.fit; room = omega (arith, s.room, low-is N.tsn r, low-is N.tsn (leaves (record { answer = a; held = r.held; next = r.next }))); apart = s.apart }
      go _ (less m is first) = record {
        numbers = s.numbers;
        fit = all-emptied (λ (x : Held). x.used ≡ true → HeldFits P x) (λ e. clash e) r.held is s.fit;
        room =
            omega
            (arith, s.room, low-is N.tsn r, low-is N.tsn (record { keeping = r.keeping; held = emptied r.held is; next = advanced N.ssn r.next first }), emptied-count (is_late N.tsn r.keeping) r.held is);
        apart = emptied-apart r.held is s.apart;
      }

-- ---- a SACK

module _ (T : Numbering) (P : Profile) (r : Receiving) where
  pub receiving-told-shaped : ReceivingShaped T P r → ReceivingShaped T P (acknowledged_receiving P r).receiving
  unfolding acknowledged_receiving receiving_told
  receiving-told-shaped w = record { numbers = number.keeping-told-shaped T P r.keeping w.numbers; long = w.long; streams = w.streams; each = w.each }

  pub told-sound : ReceivingSound T P r → ReceivingSound T P (acknowledged_receiving P r).receiving
  unfolding acknowledged_receiving receiving_told
  told-sound s =
      let p = number.told-point P r.keeping in
      record {
        numbers = number.told-bounded P r.keeping s.numbers;
        fit = s.fit;
        room =
            omega
            (arith, s.room, low-is T r, low-is T (record { keeping = keeping.keeping_told P r.keeping; held = r.held; next = r.next }), late-alike T (keeping.keeping_told P r.keeping) r.keeping (held_numbers r.held) p.0 p.1, number.highest-alike (keeping.keeping_told P r.keeping) r.keeping p.1);
        apart = s.apart;
      }

-- ---- never twice: the second wrong build

-- what is at or behind the point, or has come above it, is old or a repeat; opposite numbers lie on neither side
known-old : (T : Numbering) (P : Profile) (r : Receiving) (t : ℕ) → number.is_known T r.keeping t ≡ true → is_opposite (judgement_of T P r t) ≡ false
    → (is_old (judgement_of T P r t) ≡ true) ⊎ (is_repeat T r.keeping r.held t ≡ true)
unfolding is_repeat judgement_of
known-old T P r t k = go (judged T r.keeping.point.0 (P.places - low_of T r) t) refl
  where
    again : (d : ℕ) → keeping.offset_of T r.keeping t ≡ d → 0 < d → pick (keeping.is_come T r.keeping t) true (any (holds t) r.held) ≡ true
    again d e l =
        let m : 1 ≤ keeping.offset_of T r.keeping t = omega arith in
        let c : keeping.is_come T r.keeping t ≡ true = rw (le-ltb (keeping.offset_of T r.keeping t) 1 m) at k in
        rw c

    go : (j : Judgement) → judged T r.keeping.point.0 (P.places - low_of T r) t ≡ j → is_opposite j ≡ false
        → (is_old j ≡ true) ⊎ (pick (keeping.is_come T r.keeping t) true (any (holds t) r.held) ≡ true)
    go AtOpposite e f = clash (sym f)
    go AtOrBehind e f = inl refl
    go (AheadWithin d) e f = let o = number.judged-offset T r.keeping (P.places - low_of T r) t (AheadWithin d) e in inr (again d o.0 o.1)
    go (AheadBeyond d) e f = let o = number.judged-offset T r.keeping (P.places - low_of T r) t (AheadBeyond d) e in inr (again d o.0 o.1)

-- and is answered 11, or 24 where it is opposite, whatever else the record holds
pub known-again : (N : Numberings) (P : Profile) (r : Receiving) (h : Held) (streams : ℕ) → 1 ≤ h.len → h.len ≤ P.payload
    → number.is_known N.tsn r.keeping h.tsn.0 ≡ true → verdict_of N P r h streams ≡ pick (is_opposite (judgement_of N.tsn P r h.tsn.0)) Opposite Duplicate
unfolding verdict_of
known-again N P r h streams a b k =
    rw (le-ltb h.len 1 a, le-ltb P.payload h.len b)
    (if-not Opposite (is_opposite (judgement_of N.tsn P r h.tsn.0))
    (λ f. ⊎_elim (λ e. rw e) (λ e. rw e (either_way (is_old (judgement_of N.tsn P r h.tsn.0)))) (known-old N.tsn P r h.tsn.0 k f)))
  where
    either_way : (t : Bool) → pick t Duplicate Duplicate ≡ Duplicate
    either_way true = refl
    either_way false = refl

-- what has come is known from then on, held or refused 14
pub arrived-comes : (N : Numberings) (P : Profile) (r : Receiving) (h : Held) (streams : ℕ) → Short N.tsn (P.places + P.places) → ReceivingShaped N.tsn P r
    → On N.tsn h.tsn.0 → (verdict_of N P r h streams ≡ Kept) ⊎ (verdict_of N P r h streams ≡ Stray)
    → number.is_known N.tsn (arrived N P r h streams).receiving.keeping h.tsn.0 ≡ true
unfolding arrived kept_at_place stray_passed
arrived-comes N P r h streams wide w on =
    ⊎_elim
    (λ e. rw e (place (find_from is_held_free 0 r.held) (kept-coming N P r h streams e).0))
    (λ e. rw e (number.known-marked (comes N.tsn P r h w on wide (stray-coming N P r h streams e))))
  where
    place : (f : Option ℕ) → Coming N.tsn P r h streams → number.is_known N.tsn (kept_in N.tsn P r h f).keeping h.tsn.0 ≡ true
    place (Some i) c = number.known-marked (comes N.tsn P r h w on wide c)
    place None c = number.known-marked (comes N.tsn P r h w on wide c)

-- and stays known through every arrival, as long as it does not lie ahead beyond every offset, as what is half a circle behind does
module _ (N : Numberings) (P : Profile) (r : Receiving) (wide : Short N.tsn (P.places + P.places)) (w : ReceivingShaped N.tsn P r) (y : ℕ) (hy : On N.tsn y)
    (k : number.is_known N.tsn r.keeping y ≡ true) where
  marked-known : (t : ℕ) → On N.tsn t → keeping.offset_of N.tsn (keeping.marked_come N.tsn P r.keeping t) y ≤ P.places
      → number.is_known N.tsn (keeping.marked_come N.tsn P r.keeping t) y ≡ true
  marked-known t on l = go (dec_lt 0 (keeping.offset_of N.tsn r.keeping t)) (dec_le (keeping.offset_of N.tsn r.keeping t) P.places)
    where
      out : (keeping.offset_of N.tsn r.keeping t ≡ 0) ⊎ (P.places < keeping.offset_of N.tsn r.keeping t) → number.is_known N.tsn (keeping.marked_come N.tsn P r.keeping t) y ≡ true
      out e = ap (λ (x : Keeping). number.is_known N.tsn x y) (number.marked-out N.tsn P r.keeping t e) ∙ k

      go : Dec (0 < keeping.offset_of N.tsn r.keeping t) → Dec (keeping.offset_of N.tsn r.keeping t ≤ P.places)
          → number.is_known N.tsn (keeping.marked_come N.tsn P r.keeping t) y ≡ true
      go (no a) b = out (inl (omega arith))
      go (yes a) (no b) = out (inr (omega arith))
      go (yes a) (yes b) =
          number.known-stays (record { point = w.numbers.point; number = on; wide = wide; long = w.numbers.long; ahead = a; near = b }) y hy k l

  noted-known : (t : Tsn) → number.is_known N.tsn (keeping.listed P r.keeping t) y ≡ true
  noted-known t =
      let p = number.listed-point P r.keeping t in
      ap (λ (d : ℕ). pick (ltb d 1) true (keeping.is_come N.tsn (keeping.listed P r.keeping t) y)) (number.offset-alike N.tsn (keeping.listed P r.keeping t) r.keeping y p.0)
      ∙ (ap (λ (b : Bool). pick (ltb (keeping.offset_of N.tsn r.keeping y) 1) true b) (number.come-alike N.tsn (keeping.listed P r.keeping t) r.keeping y p.0 p.1) ∙ k)

  pub arrived-known : (h : Held) (streams : ℕ) → On N.tsn h.tsn.0
      → keeping.offset_of N.tsn (arrived N P r h streams).receiving.keeping y ≤ P.places
      → number.is_known N.tsn (arrived N P r h streams).receiving.keeping y ≡ true
  unfolding arrived duplicate_noted stray_passed kept_at_place
  arrived-known h streams on = go (verdict_of N P r h streams)
    where
      place : (f : Option ℕ) → keeping.offset_of N.tsn (kept_in N.tsn P r h f).keeping y ≤ P.places → number.is_known N.tsn (kept_in N.tsn P r h f).keeping y ≡ true
      place (Some i) l = marked-known h.tsn.0 on l
      place None l = marked-known h.tsn.0 on l

      go : (v : Verdict) → keeping.offset_of N.tsn (receiving_after N.tsn P r h v).keeping y ≤ P.places → number.is_known N.tsn (receiving_after N.tsn P r h v).keeping y ≡ true
      go Kept l = place (find_from is_held_free 0 r.held) l
      go Duplicate l = noted-known h.tsn
      go Stray l = marked-known h.tsn.0 on l
      go Empty l = k
      go Long l = k
      go Opposite l = k
      go Wedged l = k
      go Far l = k
      go Clashing l = k

  -- a take leaves number-keeping alone, and a SACK its point and offsets
  pub taken-known : (room : ℕ) → number.is_known N.tsn (taken_into N P r room).receiving.keeping y ≡ true
  unfolding taken_into
  taken-known room = k

-- ---- a refused call leaves all but what the table names

-- 9, 10, 12, 13, 21, 24: all; 11: "TSN listed if room"; 14: "TSN comes, point moves, nothing held"
pub data LeftBy (T : Numbering) (P : Profile) (r : Receiving) (h : Held) : Verdict → Receiving → Type 0 where
  all : (v : Verdict) → (verdict_number v ≡ 9) ⊎ (verdict_number v ≡ 10) ⊎ (verdict_number v ≡ 12) ⊎ (verdict_number v ≡ 13) ⊎ (verdict_number v ≡ 21) ⊎ (verdict_number v ≡ 24) → LeftBy T P r h v r
  but-listed : LeftBy T P r h Duplicate (duplicate_noted P r h.tsn)
  but-come : LeftBy T P r h Stray (stray_passed T P r h.tsn.0)

module _ (N : Numberings) (P : Profile) (r : Receiving) (h : Held) (streams : ℕ) where
  pub arrived-refused : 0 < verdict_number (arrived N P r h streams).verdict
      → LeftBy N.tsn P r h (arrived N P r h streams).verdict (arrived N P r h streams).receiving
  unfolding arrived
  arrived-refused n = go (verdict_of N P r h streams) n
    where
      go : (v : Verdict) → 0 < verdict_number v → LeftBy N.tsn P r h v (receiving_after N.tsn P r h v)
      go Kept n = absurd (omega arith)
      go Empty n = all Empty (inl refl)
      go Long n = all Long (inr (inl refl))
      go Wedged n = all Wedged (inr (inr (inl refl)))
      go Far n = all Far (inr (inr (inr (inl refl))))
      go Clashing n = all Clashing (inr (inr (inr (inr (inl refl)))))
      go Opposite n = all Opposite (inr (inr (inr (inr (inr refl)))))
      go Duplicate n = but-listed
      go Stray n = but-come

  -- and the lent area as it was
  pub area-refused : (area bytes : List ℕ) → 0 < verdict_number (arrived N P r h streams).verdict → arrival_area N P r h streams area bytes ≡ area
  unfolding arrived arrival_area
  area-refused area bytes n = go (verdict_of N P r h streams) n
    where
      go : (v : Verdict) → 0 < verdict_number v → stored_by P r.held area bytes v ≡ area
      go Kept n = absurd (omega arith)
      go Empty n = refl
      go Long n = refl
      go Wedged n = refl
      go Far n = refl
      go Clashing n = refl
      go Opposite n = refl
      go Duplicate n = refl
      go Stray n = refl

-- a take refused 17 or 18 leaves the record and the output
pub taken_refused : (N : Numberings) (P : Profile) (r : Receiving) (area out : List ℕ) → 0 < take_number (taken_into N P r (length out)).answer
    → ((taken_into N P r (length out)).receiving ≡ r) × (written N P r.held r.next r.keeping.point.0 area out ≡ out)
unfolding taken_into
taken_refused N P r area out n =
    let l = took-refused N P r.held r.next r.keeping.point.0 area out n in
    (rw (l.held, l.streams), l.output)
