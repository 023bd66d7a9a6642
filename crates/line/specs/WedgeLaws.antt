-- A chunk is never answered 12 where no message of the sender has more chunks than there are places: if the low chunks fill the places, the message
-- with the least number that is not gone is whole, and can be taken. Assumes nothing.
use Rattle.std.specs.Prelude.{ℕ, zero, suc, ◌+◌, ◌-◌, ◌<◌, ◌≤◌, ◌≡◌, Bool, List, [], ◌∷◌, ◌⊎◌, length, get_or}
use Rattle.std.proofs.Math.Path.{refl, ap}
use Rattle.std.proofs.Common.{sym, ◌∙◌, inl, inr, arith}
use Rattle.std.proofs.Math.Bool.{true, false, not}
use mir.Val.{bool_byte as bit}
use Rattle.std.proofs.Math.Decide.{dec_lt, dec_le}
use borrow.Author.Tests.{eqb-true, le-ltb}
use Rattle.std.proofs.Math.Dec.{eqb}
use Rattle.scans.specs.Scan.{pick, tick, bit_le}
use Rattle.scans.specs.Each.{clash}
use Rattle.numbers.specs.Numbering.{line, lines}
use Rattle.numbers.specs.Profile.{Profile}
use Rattle.holding.specs.declared.held.Chunk.{Chunk}
use Rattle.holding.specs.declared.held.Held.{Held}
use Rattle.holding.specs.Held.{no_held, holds}
use Rattle.holding.specs.Message.{Run, broken, whole, Choice, none, one, is_one, follow, chosen}
use Rattle.delivery.specs.declared.receiving.Receiving.{Receiving}
use Rattle.delivery.specs.Receiving.{low_of}
use Rattle.delivery.specs.Arrival.{is_wedged}
use Rattle.line.specs.Runs.{copies}
use Rattle.line.specs.Sender.{HonestSender}
use Rattle.line.specs.CountLaws.{below, below_suc, below_span, place-of}
use Rattle.line.specs.ChosenLaws.{AtMost, follow-broken, Lacks, chosen-least}
use Rattle.line.specs.LineSoundLaws.{came, came-past, held-within, low_below}
use Rattle.line.specs.ArrivesLaws.{SoundOf}
use Rattle.line.specs.TakesLaws.{least-begins, not-gone, opens-least, of-least}

below-zero : (hs : List Held) → below hs 0 ≡ 0
unfolding below
below-zero [] = refl
below-zero (x ∷ hs) = rw (le-ltb x.tsn.0 0 (omega arith)) (go x.used (below-zero hs))
  where
    go : (u : Bool) → below hs 0 ≡ 0 → tick (pick u false false) (below hs 0) ≡ 0
    go true e = e
    go false e = e

-- nothing below a is held
below_none : (hs : List Held) (a : ℕ) → ((n : ℕ) → n < a → copies hs n ≡ 0) → below hs a ≡ 0
below_none hs zero f = below-zero hs
below_none hs (suc a) f = omega (arith, below_suc hs a, f a (omega arith), below_none hs a (λ n l. f n (omega arith)))

-- each message ends within as many chunks as there are places
abbrev pub Few : Profile → ℕ → (ℕ → Chunk) → Type 0
Few P base chunk = (f : ℕ) → base ≤ f → (chunk f).begin ≡ true → (j : ℕ) × (j < P.places) × ((chunk (f + j)).end ≡ true)

module _ {P : Profile} {base streams : ℕ} {chunk : ℕ → Chunk} {size : ℕ → ℕ} {gone : ℕ → ℕ} {least : ℕ} (send : HonestSender P base streams chunk)
    (few : Few P base chunk) (r : Receiving) (s : SoundOf P base chunk size r gone least) where
  abbrev hs : List Held
  hs = r.held

  abbrev p : ℕ
  p = r.keeping.point.0

  none-there : (n : ℕ) → n < least → copies hs n ≡ 0
  none-there n l = go (dec_lt 0 (copies hs n))
    where
      go : Dec (0 < copies hs n) → copies hs n ≡ 0
      go (yes h) = absurd (omega (arith, held-within send s n h))
      go (no h) = omega arith

  none-under : below hs least ≡ 0
  none-under = below_none hs least none-there

  single : (n : ℕ) → copies hs n ≤ 1
  single n = omega (arith, s.once n, bit_le (came base p r.keeping.come n))

  module _ (full : below hs (suc p) ≡ P.places) where
    end : (j : ℕ) × (j < P.places) × ((chunk (least + j)).end ≡ true)
    end = few least s.from (least-begins send s)

    low : least ≤ p
    low = go (dec_le least p)
      where
        go : Dec (least ≤ p) → least ≤ p
        go (yes l) = l
        go (no l) = absurd (omega (arith, end.1, below_none hs (suc p) (λ n m. none-there n (omega arith))))

    -- the least is held
    here : (i : ℕ) × (i < length hs) × (holds least (get_or hs i no_held) ≡ true)
    here = place-of hs least (omega (arith, s.once least, s.stays, ap bit (came-past base p r.keeping.come least s.from low)))

    not-broken : Lacks P base streams chunk size send hs s.real (get_or hs here.0 no_held) least P.places → ⊥
    not-broken w = go w.lack
      where
        -- the message's end is not among what it has
        early : w.z ≤ least + end.0
        early = at (dec_lt (least + end.0) w.z)
          where
            at : Dec (least + end.0 < w.z) → w.z ≤ least + end.0
            at (yes l) = clash (sym (w.part (least + end.0) (omega arith) l).0 ∙ end.2)
            at (no l) = omega arith

        go : (copies hs w.z ≡ 0) ⊎ (w.z ≡ least + P.places) → ⊥
        go (inr e) = omega (arith, early, end.1)
        go (inl e) =
            let q : least + (w.z - least) ≡ w.z = omega (arith, w.from) in
            let g : gone w.z ≡ 0 = rw q at (not-gone send s w.z (λ j a b. (w.part j a b).0) (w.z - least) (omega (arith, w.from))) in
            past (dec_le w.z p) g
          where
            past : Dec (w.z ≤ p) → gone w.z ≡ 0 → ⊥
            past (yes l) g = omega (arith, s.once w.z, ap bit (came-past base p r.keeping.come w.z (omega (arith, w.from, s.from)) l))
            past (no l) g =
                let q : least + (suc p - least) ≡ suc p = omega (arith, low) in
                let u : below hs (suc p) ≤ below hs least + (suc p - least) = rw q at (below_span hs least (suc p - least) single) in
                omega (arith, none-under, early, end.1, low)

    ready : is_one (chosen lines P hs r.next p) ≡ true
    unfolding chosen
    ready = run (follow line hs (get_or hs here.0 no_held) P.places here.0 (get_or hs here.0 no_held)) refl
      where
        some : (c : Choice) (t : ℕ) → AtMost t c → is_one c ≡ true
        some none t v = absurd v
        some (one l is) t v = refl

        run : (x : Run) → follow line hs (get_or hs here.0 no_held) P.places here.0 (get_or hs here.0 no_held) ≡ x → is_one (chosen lines P hs r.next p) ≡ true
        run (whole js) e =
            some (chosen lines P hs r.next p) (get_or hs here.0 no_held).tsn.0
            (chosen-least P base streams chunk size send hs s.real r.next p here.0 js here.1 (opens-least send s here.0 here.2, e))
        run broken e =
            absurd (not-broken (follow-broken P base streams chunk size send hs s.real (get_or hs here.0 no_held) P.places least here.0 here.2 (of-least send s here.0 here.2) e))

  pub not-wedged : is_wedged lines P (low_of line r) r.held r.next p ≡ false
  unfolding is_wedged low_of
  not-wedged = go (eqb (low_of line r) P.places) refl
    where
      go : (t : Bool) → eqb (low_of line r) P.places ≡ t → pick t (not (is_one (chosen lines P hs r.next p))) false ≡ false
      go false e = refl
      go true e = ap not (ready (sym (low_below send s r.keeping refl refl) ∙ eqb-true (low_of line r) P.places e))
