-- A take keeps the line receiver sound. What is taken may lie above a message that is not whole: then the chunks of that message up to the
-- point are all held, and the room that they leave bounds what was taken.
-- Assumes nothing.
use Rattle.std.specs.Prelude.{ℕ, zero, suc, ◌+◌, ◌-◌, ◌<◌, ◌≤◌, ◌≡◌, Bool, ◌⊎◌, length, set, get_or, eqb, ltb}
use Rattle.std.proofs.Math.Path.{refl, subst}
use Rattle.std.proofs.Common.{sym, ap, ◌∙◌, inl, inr, add-suc, add-zero, arith, lt-ltb, le-ltb, eq-eqb, ne_eqb, eqb-true, length-set, get_or-set_same, get_or-set_other}
use Rattle.std.proofs.Math.Bool.{true, false}
use mathlib.Core.List.{List, [], ◌∷◌}
use Rattle.std.proofs.Math.Decide.{dec_lt, dec_le, ℕ_discrete}
use Rattle.std.proofs.lemmas.Bool.{eqb-false}
use mir.Val.{bool_byte as bit}
use Rattle.scans.specs.Scan.{pick, count, bit_le}
use Rattle.scans.specs.Each.{All, all_set, clash}
use Rattle.numbers.specs.declared.circle.Ssn.{Ssn}
use Rattle.numbers.specs.Circle.{ssn0}
use Rattle.numbers.specs.Numbering.{line, lines, on}
use Rattle.numbers.specs.Profile.{Profile}
use Rattle.holding.specs.declared.held.Chunk.{Chunk}
use Rattle.holding.specs.declared.held.Held.{Held}
use Rattle.holding.specs.Held.{no_held, as_held, holds, holds-is, is_held}
use Rattle.holding.specs.Message.{Run, broken, whole, Choice, none, one, is_left_end, is_due_at, is_expected, opens, follow, chosen, chunks_at}
use Rattle.holding.specs.DueLaws.{due-line}
use Rattle.holding.specs.TakingLaws.{emptied-long}
use Rattle.holding.specs.Taking.{emptied, advanced, first_held, length_of, message_of, took_by, took}
use Rattle.holding.specs.declared.taking.Answer.{Answer}
use Rattle.holding.specs.declared.taking.Answer.TheVariants.{Taken, Nothing, Short}
use Rattle.delivery.specs.declared.receiving.Receiving.{Receiving}
use Rattle.delivery.specs.declared.receiving.Taken.{Taken as Left}
use Rattle.delivery.specs.Receiving.{taken_by, taken_into}
use Rattle.line.specs.Runs.{copies, chunks_handed_by, chunks_handed, is_ordered_in, ssn_of}
use Rattle.line.specs.CountLaws.{bit-ge, copies-nil, below, is_below, below_suc, below-run, below-mono, below-le, count-empty, place-of}
use Rattle.line.specs.Sender.{HonestSender, agreed-few, starts, starts-at, ordinal, ordinal-lt}
use Rattle.line.specs.ChosenLaws.{Real, Spanning, inside, inside-yes, inside_under, inside-over, inside_is, copies-emptied, copies-chunks, spanning-at, spanning-some, MessageReady, MessageChosen, AtMost, real-at, follow-whole, follow-broken, Lacks, Of, chosen-won, chosen-least}
use Rattle.line.specs.LineSoundLaws.{LineSound, came, came-past, came-within, came-room, held-within, expected-least}
use Rattle.line.specs.ArrivesLaws.{SoundOf}

-- the least number from `from` on of which g is 0
record Least (g : ℕ → ℕ) (from : ℕ) : Type 0 where
  at : ℕ
  high : from ≤ at
  zero-at : g at ≡ 0
  under : (n : ℕ) → from ≤ n → n < at → 0 < g n

least-from : (g : ℕ → ℕ) (k from : ℕ) → g (from + k) ≡ 0 → Least g from
least-from g zero from e = record { at = from; high = omega arith; zero-at = rw (add-zero from) at e; under = λ n a b. absurd (omega arith) }
least-from g (suc k) from e = go (ℕ_discrete (g from) 0) (least-from g k (suc from) (let q : from + suc k ≡ suc from + k = omega arith in rw q at e))
  where
    go : Dec (g from ≡ 0) → Least g (suc from) → Least g from
    go (yes z) w = record { at = from; high = omega arith; zero-at = z; under = λ n a b. absurd (omega arith) }
    go (no z) w = record { at = w.at; high = omega (arith, w.high); zero-at = w.zero-at; under = under' }
      where
        under' : (n : ℕ) → from ≤ n → n < w.at → 0 < g n
        under' n a b = here (ℕ_discrete from n)
          where
            here : Dec (from ≡ n) → 0 < g n
            here (yes q) = rw (← q) (omega arith)
            here (no q) = w.under n (omega arith) b

beyond : (a b : ℕ) → (a ≡ b → ⊥) → bit (ltb a b) ≡ bit (ltb a (b + 1))
beyond a b n = go (dec_lt a b)
  where
    go : Dec (a < b) → bit (ltb a b) ≡ bit (ltb a (b + 1))
    go (yes l) = rw (lt-ltb a b l, lt-ltb a (b + 1) (omega arith))
    go (no l) = let m : b < a = omega arith in rw (le-ltb a b (omega arith), le-ltb a (b + 1) (omega arith))

-- what `opens` asks
opens-is : (P : Profile) (next : List Ssn) (x : Held) → opens line P next x ≡ true
    → (x.used ≡ true) × (x.begin ≡ true) × (x.unordered ≡ false → x.ssn.0 ≡ (get_or next x.stream.0 ssn0).0)
unfolding opens is_left_end is_expected
opens-is P next x e = go x.used x.begin x.unordered refl refl refl e
  where
    go : (u b k : Bool) → x.used ≡ u → x.begin ≡ b → x.unordered ≡ k
        → pick (pick u b false) (pick k true (pick (ltb x.stream.0 P.streams) (is_due_at line (get_or next x.stream.0 ssn0).0 x.ssn.0) false)) false ≡ true
        → (x.used ≡ true) × (x.begin ≡ true) × (x.unordered ≡ false → x.ssn.0 ≡ (get_or next x.stream.0 ssn0).0)
    go false b k p q r f = clash f
    go true false k p q r f = clash f
    go true true true p q r f = (p, q, λ z. clash (sym z ∙ r))
    go true true false p q r f = (p, q, λ z. last (ltb x.stream.0 P.streams) f)
      where
        last : (t : Bool) → pick t (is_due_at line (get_or next x.stream.0 ssn0).0 x.ssn.0) false ≡ true → x.ssn.0 ≡ (get_or next x.stream.0 ssn0).0
        last true h = eqb-true x.ssn.0 (get_or next x.stream.0 ssn0).0 (sym (due-line (get_or next x.stream.0 ssn0).0 x.ssn.0) ∙ h)
        last false h = clash h

opens-so : (P : Profile) (next : List Ssn) (x : Held) → x.used ≡ true → x.begin ≡ true → x.stream.0 < P.streams
    → (x.unordered ≡ false → x.ssn.0 ≡ (get_or next x.stream.0 ssn0).0) → opens line P next x ≡ true
unfolding opens is_left_end is_expected
opens-so P next x p q r f = rw (p, q, lt-ltb x.stream.0 P.streams r) (go x.unordered refl)
  where
    go : (k : Bool) → x.unordered ≡ k → pick k true (is_due_at line (get_or next x.stream.0 ssn0).0 x.ssn.0) ≡ true
    go true e = refl
    go false e = due-line (get_or next x.stream.0 ssn0).0 x.ssn.0 ∙ eq-eqb x.ssn.0 (get_or next x.stream.0 ssn0).0 (f e)

advanced-all : (next : List Ssn) (h : Held) → h.unordered ≡ true → advanced line next h ≡ next
unfolding advanced
advanced-all next h e = rw e

-- the next expected number of the chunk's stream, one further
abbrev on_more : List Ssn → Held → Ssn
on_more next h = record { 0 = (get_or next h.stream.0 ssn0).0 + 1 }

advanced-set : (next : List Ssn) (h : Held) → h.unordered ≡ false → advanced line next h ≡ set next h.stream.0 (on_more next h)
unfolding advanced on
advanced-set next h e = rw e

-- ---- what emptying leaves

emptied-real : (base : ℕ) (chunk : ℕ → Chunk) (size : ℕ → ℕ) (hs : List Held) (is : List ℕ) → All (Real base chunk size) hs → All (Real base chunk size) (emptied hs is)
emptied-real base chunk size hs [] w = w
emptied-real base chunk size hs (i ∷ is) w = emptied-real base chunk size (set hs i no_held) is (all_set (Real base chunk size) hs i no_held (λ e. clash e) w)

emptied-count : (p : Held → Bool) → p no_held ≡ false → (hs : List Held) (is : List ℕ) → count p (emptied hs is) ≤ count p hs
emptied-count p z hs [] = omega arith
emptied-count p z hs (i ∷ is) = omega (arith, emptied-count p z (set hs i no_held) is, count-empty p z hs i)

emptied-below : (hs : List Held) (is : List ℕ) (a : ℕ) → below (emptied hs is) a ≤ below hs a
unfolding below
emptied-below hs is a = emptied-count (is_below a) refl hs is

-- ---- the message with the least number that is not gone

module _ {P : Profile} {base streams : ℕ} {chunk : ℕ → Chunk} {size : ℕ → ℕ} {p : ℕ} {come : List Bool} {hs : List Held} {next : List Ssn} {gone : ℕ → ℕ} {least : ℕ}
    (send : HonestSender P base streams chunk) (s : LineSound P base chunk size p come hs next gone least) where
  abbrev expected : ℕ → ℕ
  expected t = (get_or next t ssn0).0

  pub least-begins : (chunk least).begin ≡ true
  least-begins = go (ℕ_discrete base least)
    where
      go : Dec (base ≡ least) → (chunk least).begin ≡ true
      go (yes e) = rw (← e) send.begins
      go (no e) = ends (chunk (least - 1)).end refl
        where
          m : ℕ
          m = least - 1

          q : suc m ≡ least
          q = omega (arith, s.from)

          ends : (t : Bool) → (chunk m).end ≡ t → (chunk least).begin ≡ true
          ends true t = rw (← q) (send.parts m (omega (arith, s.from)) ∙ t)
          ends false t =
              let a : gone (suc m) ≡ gone m = s.whole m (omega (arith, s.from)) t in
              let b : gone (suc m) ≡ gone least = ap gone q in
              absurd (omega (arith, s.lower m (omega (arith, s.from)) (omega (arith, s.from)), s.stays))

  -- the chunks of a message that begins at the least are not gone
  pub not-gone : (z : ℕ) → ((j : ℕ) → least ≤ j → j < z → (chunk j).end ≡ false) → (k : ℕ) → least + k ≤ z → gone (least + k) ≡ 0
  not-gone z f zero l = rw (add-zero least) s.stays
  not-gone z f (suc k) l =
      rw (add-suc least k) (s.whole (least + k) (omega (arith, s.from)) (f (least + k) (omega arith) (omega arith)) ∙ not-gone z f k (omega arith))

  module _ (i : ℕ) (here : holds least (get_or hs i no_held) ≡ true) where
    abbrev x : Held
    x = get_or hs i no_held

    is : x ≡ as_held (chunk least) (size least)
    is = (real-at P base streams chunk size send hs s.real i least here).1

    pub opens-least : opens line P next x ≡ true
    opens-least = rw is (opens-so P next (as_held (chunk least) (size least)) refl least-begins (agreed-few send least s.from) next-is)
      where
        next-is : (chunk least).unordered ≡ false → (chunk least).ssn.0 ≡ (get_or next (chunk least).stream.0 ssn0).0
        next-is u =
            let g : expected (chunk least).stream.0 ≤ (chunk least).ssn.0 = bit-ge _ _ (sym (s.order least s.from least-begins u) ∙ s.stays) in
            omega (arith, send.in_order least s.from least-begins u, expected-least send s (chunk least).stream.0 least (omega arith))

    pub of-least : Of P base streams chunk size send hs s.real x least
    of-least = record {
      same-stream = ap (λ (y : Held). y.stream.0) is;
      kind = ap (λ (y : Held). y.unordered) is;
      ssn = λ u. ap (λ (y : Held). y.ssn.0) is;
    }

    -- where it is not whole, what is held lies above its beginning by less than the places
    lacks : least ≤ p → Lacks P base streams chunk size send hs s.real x least P.places → (n : ℕ) → 1 ≤ copies hs n → n < least + P.places
    lacks lp w n h = go w.lack
      where
        go : (copies hs w.z ≡ 0) ⊎ (w.z ≡ least + P.places) → n < least + P.places
        go (inl c) = far (dec_le w.z p)
          where
            e : least + (w.z - least) ≡ w.z
            e = omega (arith, w.from)

            g : gone w.z ≡ 0
            g = rw e at (not-gone w.z (λ j a b. (w.part j a b).0) (w.z - least) (omega (arith, w.from)))

            far : Dec (w.z ≤ p) → n < least + P.places
            far (yes l) = absurd (omega (arith, g, s.once w.z, ap bit (came-past base p come w.z (omega (arith, w.from, s.from)) l)))
            far (no l) =
                let q : least + (suc p - least) ≡ suc p = omega arith in
                let r : below hs least + (suc p - least) ≤ below hs (suc p)
                = rw q at (below-run hs least (suc p - least) (λ j a b. (w.part j a (omega arith)).1)) in
                above (dec_le n p) r
              where
                above : Dec (n ≤ p) → below hs least + (suc p - least) ≤ below hs (suc p) → n < least + P.places
                above (yes m) r = omega (arith, below-le hs (suc p), s.held-long)
                above (no m) r = omega (arith, came-room send s n (omega arith) (omega (arith, s.once n)))
        go (inr c) = above (dec_lt n (least + P.places))
          where
            r : below hs least + P.places ≤ below hs (least + P.places)
            r = below-run hs least P.places (λ j a b. (w.part j a (omega arith)).1)

            above : Dec (n < least + P.places) → n < least + P.places
            above (yes m) = m
            above (no m) =
                absurd
                (omega (arith, r, below-mono hs (least + P.places) n (omega arith), below_suc hs n, below-le hs (suc n), s.held-long))

  -- ---- a message is taken

  module _ (f : ℕ) (is : List ℕ) (span : Spanning chunk hs f is) (lf : base ≤ f) (bf : (chunk f).begin ≡ true)
      (uf : (chunk f).unordered ≡ false → (chunk f).ssn.0 ≡ expected (chunk f).stream.0) where
    abbrev k : ℕ
    k = length is

    abbrev pub gone' : ℕ → ℕ
    gone' n = gone n + bit (inside f k n)

    -- each of it was held, and is not gone before
    taken_at : (n : ℕ) → inside f k n ≡ true → (1 ≤ copies hs n) × (gone n ≡ 0)
    taken_at n e =
        let w = inside_is f k n e in
        let v = spanning-at chunk hs f is n span w.0 w.1 in
        (v.0, omega (arith, v.0, s.once n, bit_le (came base p come n)))

    -- where a message begins it is this one's beginning
    inside-start : (n : ℕ) → (chunk n).begin ≡ true → inside f k n ≡ true → n ≡ f
    inside-start n b e = go (ℕ_discrete n f)
      where
        w : (f ≤ n) × (n < f + k)
        w = inside_is f k n e

        go : Dec (n ≡ f) → n ≡ f
        go (yes q) = q
        go (no q) =
            let m : ℕ = n - 1 in
            let r : suc m ≡ n = omega (arith, w) in
            let v = spanning-at chunk hs f is m span (omega (arith, w)) (omega (arith, w)) in
            let c : eqb (suc m) (f + k) ≡ true = sym v.1 ∙ (sym (send.parts m (omega (arith, w))) ∙ rw r b) in
            absurd (omega (arith, w, eqb-true (suc m) (f + k) c))

    whole' : (n : ℕ) → base ≤ n → (chunk n).end ≡ false → gone' (suc n) ≡ gone' n
    whole' n l e = omega (arith, s.whole n l e, both (dec_lt n f) (dec_lt n (f + k)))
      where
        both : Dec (n < f) → Dec (n < f + k) → bit (inside f k (suc n)) ≡ bit (inside f k n)
        both (yes a) b = first (ℕ_discrete (suc n) f)
          where
            first : Dec (suc n ≡ f) → bit (inside f k (suc n)) ≡ bit (inside f k n)
            first (yes q) = clash (sym (send.parts n l ∙ e) ∙ rw q bf)
            first (no q) = rw (inside_under f k (suc n) (omega arith), inside_under f k n a)
        both (no a) (no b) = rw (inside-over f k (suc n) (omega arith), inside-over f k n (omega arith))
        both (no a) (yes b) =
            let v = spanning-at chunk hs f is n span (omega arith) b in
            let c : suc n ≡ f + k → ⊥ = eqb-false (suc n) (f + k) (sym v.1 ∙ e) in
            let d : suc n < f + k = omega arith in
            rw (inside-yes f k (suc n) (omega arith) d, inside-yes f k n (omega arith) b)

    once' : (n : ℕ) → copies (emptied hs is) n + gone' n ≡ bit (came base p come n)
    once' n = omega (arith, copies-emptied chunk hs f is n span, s.once n)

    -- the next expected, after it
    abbrev next' : List Ssn
    next' = advanced line next (as_held (chunk f) (size f))

    abbrev expected' : ℕ → ℕ
    expected' t = (get_or next' t ssn0).0

    kept-all : (chunk f).unordered ≡ true → (t : ℕ) → expected' t ≡ expected t
    kept-all e t = ap (λ (y : List Ssn). (get_or y t ssn0).0) (advanced-all next (as_held (chunk f) (size f)) e)

    kept-other : (chunk f).unordered ≡ false → (t : ℕ) → (t ≡ (chunk f).stream.0 → ⊥) → expected' t ≡ expected t
    kept-other e t n =
        ap (λ (y : List Ssn). (get_or y t ssn0).0) (advanced-set next (as_held (chunk f) (size f)) e)
        ∙ ap (λ (y : Ssn). y.0) (get_or-set_other next (chunk f).stream.0 t (on_more next (as_held (chunk f) (size f))) ssn0 n)

    one_more : (chunk f).unordered ≡ false → expected' (chunk f).stream.0 ≡ expected (chunk f).stream.0 + 1
    one_more e =
        ap (λ (y : List Ssn). (get_or y (chunk f).stream.0 ssn0).0) (advanced-set next (as_held (chunk f) (size f)) e)
        ∙ ap (λ (y : Ssn). y.0)
        (get_or-set_same next (chunk f).stream.0 (on_more next (as_held (chunk f) (size f))) ssn0 (omega (arith, agreed-few send f lf, s.next-long)))

    not-inside : (n : ℕ) → (chunk n).begin ≡ true → (n ≡ f → ⊥) → bit (inside f k n) ≡ 0
    not-inside n b q = go (inside f k n) refl
      where
        go : (t : Bool) → inside f k n ≡ t → bit (inside f k n) ≡ 0
        go true e = absurd (q (inside-start n b e))
        go false e = ap bit e

    -- two beginnings of a stream have two numbers
    apart : (n : ℕ) → base ≤ n → (chunk n).begin ≡ true → (chunk n).unordered ≡ false → (chunk f).unordered ≡ false → (chunk n).stream.0 ≡ (chunk f).stream.0
        → (n ≡ f → ⊥) → (chunk n).ssn.0 ≡ (chunk f).ssn.0 → ⊥
    apart n l b u v t q e = go (dec_lt n f)
      where
        o : ℕ → ℕ
        o = ordinal base chunk (chunk f).stream.0

        a : (chunk n).ssn.0 ≡ o n
        a = send.in_order n l b u ∙ ap (λ (y : ℕ). ordinal base chunk y n) t

        c : (chunk f).ssn.0 ≡ o f
        c = send.in_order f lf bf v

        sn : starts base chunk (chunk f).stream.0 n ≡ true
        sn = ap (λ (y : ℕ). starts base chunk y n) (sym t) ∙ starts-at base chunk n l b u

        go : Dec (n < f) → ⊥
        go (yes m) = omega (arith, a, c, ordinal-lt base chunk (chunk f).stream.0 n f sn m)
        go (no m) = omega (arith, a, c, ordinal-lt base chunk (chunk f).stream.0 f n (starts-at base chunk f lf bf v) (omega arith))

    order' : (n : ℕ) → base ≤ n → (chunk n).begin ≡ true → (chunk n).unordered ≡ false → gone' n ≡ bit (ltb (chunk n).ssn.0 (expected' (chunk n).stream.0))
    order' n l b u = go (chunk f).unordered refl
      where
        same : expected' (chunk n).stream.0 ≡ expected (chunk n).stream.0 → (n ≡ f → ⊥) → gone' n ≡ bit (ltb (chunk n).ssn.0 (expected' (chunk n).stream.0))
        same e q = rw e (omega (arith, not-inside n b q, s.order n l b u))

        go : (t : Bool) → (chunk f).unordered ≡ t → gone' n ≡ bit (ltb (chunk n).ssn.0 (expected' (chunk n).stream.0))
        go true t = same (kept-all t (chunk n).stream.0) (λ q. clash (sym u ∙ (ap (λ (y : ℕ). (chunk y).unordered) q ∙ t)))
        go false t = at (ℕ_discrete n f) (ℕ_discrete (chunk n).stream.0 (chunk f).stream.0)
          where
            at : Dec (n ≡ f) → Dec ((chunk n).stream.0 ≡ (chunk f).stream.0) → gone' n ≡ bit (ltb (chunk n).ssn.0 (expected' (chunk n).stream.0))
            at (yes q) c =
                let i : inside f k n ≡ true = inside-yes f k n (omega arith) (omega (arith, spanning-some chunk hs f is span)) in
                let e : (chunk n).ssn.0 < expected' (chunk n).stream.0 = rw q (omega (arith, uf t, one_more t)) in
                rw (lt-ltb (chunk n).ssn.0 (expected' (chunk n).stream.0) e) (omega (arith, taken_at n i, ap bit i))
            at (no q) (no c) = same (kept-other t (chunk n).stream.0 c) q
            at (no q) (yes c) =
                let a : expected' (chunk n).stream.0 ≡ expected (chunk f).stream.0 + 1 = ap expected' c ∙ one_more t in
                let d : expected (chunk n).stream.0 ≡ expected (chunk f).stream.0 = ap expected c in
                let g : gone n ≡ bit (ltb (chunk n).ssn.0 (expected (chunk f).stream.0)) = rw d at (s.order n l b u) in
                rw a (omega (arith, not-inside n b q, beyond (chunk n).ssn.0 (expected (chunk f).stream.0) (λ e. apart n l b u t c q (e ∙ sym (uf t)))))

    far-off : gone' (least + (suc (p + P.places) - least)) ≡ 0
    far-off = rw e (at (dec_lt 0 (bit (came base p come (suc (p + P.places))))))
      where
        beyond-all : 0 < bit (came base p come (suc (p + P.places))) → ⊥
        beyond-all h = omega (arith, came-within send s (suc (p + P.places)) h)

        under : Dec (suc (p + P.places) < least) → least ≤ suc (p + P.places)
        under (yes l) = absurd (beyond-all (omega (arith, s.once (suc (p + P.places)), s.lower (suc (p + P.places)) (omega (arith, s.start)) l)))
        under (no l) = omega arith

        e : least + (suc (p + P.places) - least) ≡ suc (p + P.places)
        e = omega (arith, under (dec_lt (suc (p + P.places)) least))

        at : Dec (0 < bit (came base p come (suc (p + P.places)))) → gone' (suc (p + P.places)) ≡ 0
        at (yes h) = absurd (beyond-all h)
        at (no h) = omega (arith, once' (suc (p + P.places)))

    next-least : Least gone' least
    next-least = least-from gone' (suc (p + P.places) - least) least far-off

    module _ (l : Least gone' least) (first : (i : ℕ) (js : List ℕ) → i < length hs → MessageReady P hs next i js → f ≤ (get_or hs i no_held).tsn.0) where
      -- what was taken lies above what is now the least by less than the places
      taken-upper : (n : ℕ) → inside f k n ≡ true → n < l.at + P.places
      taken-upper n e = go (dec_lt p least)
        where
          w : (1 ≤ copies hs n) × (gone n ≡ 0)
          w = taken_at n e

          in_f : inside f k f ≡ true
          in_f = inside-yes f k f (omega arith) (omega (arith, spanning-some chunk hs f is span))

          held : least ≤ p → copies hs least ≡ 1
          held m = omega (arith, s.once least, s.stays, ap bit (came-past base p come least s.from m))

          -- the least is taken: all of its message is
          whole-case : f ≤ least → n < l.at + P.places
          whole-case a =
              let b = held-within send s f (taken_at f in_f).0 in
              let c = inside_is f k n e in
              past (dec_lt l.at (f + k)) (omega arith) c
            where
              past : Dec (l.at < f + k) → f ≡ least → (f ≤ n) × (n < f + k) → n < l.at + P.places
              past (yes d) q c =
                  absurd (omega (arith, l.zero-at, ap bit (inside-yes f k l.at (omega (arith, l.high)) d)))
              past (no d) q c = omega arith

          go : Dec (p < least) → n < l.at + P.places
          go (yes m) = omega (arith, held-within send s n w.0, l.high)
          go (no m) = found (place-of hs least (omega (arith, held (omega arith))))
            where
              found : (i : ℕ) × (i < length hs) × (holds least (get_or hs i no_held) ≡ true) → n < l.at + P.places
              found q = run (follow line hs (get_or hs q.0 no_held) P.places q.0 (get_or hs q.0 no_held)) refl
                where
                  run : (r : Run) → follow line hs (get_or hs q.0 no_held) P.places q.0 (get_or hs q.0 no_held) ≡ r → n < l.at + P.places
                  run (whole js) z =
                      whole-case
                      (omega (arith, first q.0 js q.1 (opens-least q.0 q.2, z), (is_held least (get_or hs q.0 no_held) q.2).1))
                  run broken z =
                      omega
                      (arith, l.high, lacks q.0 q.2 (omega arith) (follow-broken P base streams chunk size send hs s.real (get_or hs q.0 no_held) P.places least q.0 q.2 (of-least q.0 q.2) z) n w.0)

      taken_is : LineSound P base chunk size p come (emptied hs is) next' gone' l.at
      taken_is = record {
        held-long = emptied-long hs is ∙ s.held-long;
        come-long = s.come-long;
        next-long = long' (chunk f).unordered refl;
        real = emptied-real base chunk size hs is s.real;
        start = s.start;
        once = once';
        room = λ d e. omega (arith, s.room d e, emptied-below hs is (suc p));
        from = omega (arith, s.from, l.high);
        stays = l.zero-at;
        lower = lower';
        upper = upper';
        whole = whole';
        order = order';
      }
        where
          long' : (t : Bool) → (chunk f).unordered ≡ t → length next' ≡ P.streams
          long' true t = ap length (advanced-all next (as_held (chunk f) (size f)) t) ∙ s.next-long
          long' false t =
              ap length (advanced-set next (as_held (chunk f) (size f)) t) ∙ (length-set next (chunk f).stream.0 (on_more next (as_held (chunk f) (size f))) ∙ s.next-long)

          lower' : (n : ℕ) → base ≤ n → n < l.at → gone' n ≡ 1
          lower' n a b = go (dec_lt n least)
            where
              go : Dec (n < least) → gone' n ≡ 1
              go (yes c) = omega (arith, s.lower n a c, once' n, bit_le (came base p come n))
              go (no c) = omega (arith, l.under n (omega arith) b, once' n, bit_le (came base p come n))

          upper' : (n : ℕ) → 0 < gone' n → n < l.at + P.places
          upper' n h = go (inside f k n) refl
            where
              go : (t : Bool) → inside f k n ≡ t → n < l.at + P.places
              go true e = taken-upper n e
              go false e = omega (arith, ap bit e, s.upper n (omega (arith, ap bit e)), l.high)

-- ---- the record

-- the places `is` hold a whole message of the sender, the lowest that can be taken
pub record Picks (P : Profile) (base : ℕ) (chunk : ℕ → Chunk) (size : ℕ → ℕ) (hs : List Held) (next : List Ssn) (is : List ℕ) : Type 0 where
  pub at : ℕ
  pub low : base ≤ at
  pub span : Spanning chunk hs at is
  pub opening : (chunk at).begin ≡ true
  pub due : (chunk at).unordered ≡ false → (chunk at).ssn.0 ≡ (get_or next (chunk at).stream.0 ssn0).0
  pub head : first_held (chunks_at hs is) ≡ as_held (chunk at) (size at)
  pub lowest : (i : ℕ) (js : List ℕ) → i < length hs → MessageReady P hs next i js → at ≤ (get_or hs i no_held).tsn.0

-- the record after a take is sound; what is gone is what was and what the take gave; and of an ordered message, the take gave the next expected
pub record TakenSound (P : Profile) (base : ℕ) (chunk : ℕ → Chunk) (size : ℕ → ℕ) (gone : ℕ → ℕ) (next : List Ssn) (cs : List Held) (t : Left) : Type 0 where
  pub now : ℕ → ℕ
  pub least : ℕ
  pub sound : SoundOf P base chunk size t.receiving now least
  pub more : (n : ℕ) → now n ≡ gone n + copies cs n
  pub ahead : (q : ℕ) → (get_or t.receiving.next q ssn0).0 ≡ (get_or next q ssn0).0 + bit (is_ordered_in q t.answer)
  pub given : (q : ℕ) → is_ordered_in q t.answer ≡ true → ssn_of t.answer ≡ (get_or next q ssn0).0

module _ {P : Profile} {base streams : ℕ} {chunk : ℕ → Chunk} {size : ℕ → ℕ} {gone : ℕ → ℕ} {least : ℕ} (send : HonestSender P base streams chunk)
    (r : Receiving) (s : SoundOf P base chunk size r gone least) where
  abbrev hs : List Held
  hs = r.held

  pub picks : (l : ℕ) (is : List ℕ) → chosen lines P hs r.next r.keeping.point.0 ≡ one l is → Picks P base chunk size hs r.next is
  unfolding chosen
  picks l is e =
      subst (λ (ks : List ℕ). Picks P base chunk size hs r.next ks) (sym v.1) (record {
        at = f;
        low = real.0;
        span = v.2;
        opening = opened.1;
        due = opened.2;
        head = real.1;
        lowest = lowest;
      })
    where
      w : MessageChosen P hs r.next (one l is)
      w = subst (MessageChosen P hs r.next) e (chosen-won P base streams chunk size send hs s.real r.next r.keeping.point.0)

      i : ℕ
      i = w.0

      f : ℕ
      f = (get_or hs i no_held).tsn.0

      here : holds f (get_or hs i no_held) ≡ true
      here = holds-is f (get_or hs i no_held) (opens-is P r.next (get_or hs i no_held) w.2.0).0 refl

      real : (base ≤ f) × (get_or hs i no_held ≡ as_held (chunk f) (size f))
      real = real-at P base streams chunk size send hs s.real i f here

      opened : ((as_held (chunk f) (size f)).used ≡ true) × ((chunk f).begin ≡ true) × ((chunk f).unordered ≡ false → (chunk f).ssn.0 ≡ (get_or r.next (chunk f).stream.0 ssn0).0)
      opened = opens-is P r.next (as_held (chunk f) (size f)) (subst (λ (x : Held). opens line P r.next x ≡ true) real.1 w.2.0)

      v : (js : List ℕ) × (is ≡ i ∷ js) × Spanning chunk hs f (i ∷ js)
      v = follow-whole P base streams chunk size send hs s.real (get_or hs i no_held) P.places f i is here w.2.1

      lowest : (j : ℕ) (js : List ℕ) → j < length hs → MessageReady P hs r.next j js → f ≤ (get_or hs j no_held).tsn.0
      lowest j js m q =
          let a : l ≤ (get_or hs j no_held).tsn.0
          = subst (AtMost (get_or hs j no_held).tsn.0) e (chosen-least P base streams chunk size send hs s.real r.next r.keeping.point.0 j js m q) in
          omega (arith, w.1)

  -- what a take leaves of a message whose first chunk is y
  abbrev leaves : List ℕ → Held → Left
  leaves is y = record {
    answer = Taken (message_of (length_of hs is) y);
    receiving = record { keeping = r.keeping; held = emptied hs is; next = advanced line r.next y };
  }

  taken-one : (is : List ℕ) → Picks P base chunk size hs r.next is
      → TakenSound P base chunk size gone r.next (chunks_at hs is) (leaves is (first_held (chunks_at hs is)))
  taken-one is w =
      subst (λ (y : Held). TakenSound P base chunk size gone r.next (chunks_at hs is) (leaves is y)) (sym w.head)
      (record {
        now = gone' send s f is w.span w.low w.opening w.due;
        least = n.at;
        sound = taken_is send s f is w.span w.low w.opening w.due n w.lowest;
        more = λ n. ap (λ (x : ℕ). gone n + x) (sym (copies-chunks chunk hs f is n w.span));
        ahead = ahead';
        given = given';
      })
    where
      f : ℕ
      f = w.at

      n : Least (gone' send s f is w.span w.low w.opening w.due) least
      n = next-least send s f is w.span w.low w.opening w.due

      ahead' : (q : ℕ) → (get_or (advanced line r.next (as_held (chunk f) (size f))) q ssn0).0
          ≡ (get_or r.next q ssn0).0 + bit (pick (chunk f).unordered false (eqb (chunk f).stream.0 q))
      ahead' q = go (chunk f).unordered refl
        where
          go : (t : Bool) → (chunk f).unordered ≡ t
              → (get_or (advanced line r.next (as_held (chunk f) (size f))) q ssn0).0 ≡ (get_or r.next q ssn0).0 + bit (pick t false (eqb (chunk f).stream.0 q))
          go true t = omega (arith, kept-all send s f is w.span w.low w.opening w.due t q)
          go false t = here (ℕ_discrete q (chunk f).stream.0)
            where
              here : Dec (q ≡ (chunk f).stream.0)
                  → (get_or (advanced line r.next (as_held (chunk f) (size f))) q ssn0).0 ≡ (get_or r.next q ssn0).0 + bit (eqb (chunk f).stream.0 q)
              here (yes e) =
                  rw (eq-eqb (chunk f).stream.0 q (sym e))
                  (subst (λ (y : ℕ). (get_or (advanced line r.next (as_held (chunk f) (size f))) y ssn0).0 ≡ (get_or r.next y ssn0).0 + 1) (sym e)
                  (one_more send s f is w.span w.low w.opening w.due t))
              here (no e) =
                  rw (ne_eqb (chunk f).stream.0 q (λ z. e (sym z)))
                  (omega (arith, kept-other send s f is w.span w.low w.opening w.due t q e))

      given' : (q : ℕ) → pick (chunk f).unordered false (eqb (chunk f).stream.0 q) ≡ true → (chunk f).ssn.0 ≡ (get_or r.next q ssn0).0
      given' q e = go (chunk f).unordered refl e
        where
          go : (t : Bool) → (chunk f).unordered ≡ t → pick t false (eqb (chunk f).stream.0 q) ≡ true → (chunk f).ssn.0 ≡ (get_or r.next q ssn0).0
          go true t e = clash e
          go false t e = w.due t ∙ ap (λ (y : ℕ). (get_or r.next y ssn0).0) (eqb-true (chunk f).stream.0 q e)

  -- a take that gives no message leaves all
  taken_none : (a : Answer) → ((q : ℕ) → is_ordered_in q a ≡ false) → TakenSound P base chunk size gone r.next [] (record { answer = a; receiving = r })
  taken_none a never = record {
    now = gone;
    least = least;
    sound = s;
    more = λ n. omega (arith, copies-nil n);
    ahead = λ q. omega (arith, ap bit (never q));
    given = λ q z. clash (sym (never q) ∙ z);
  }

  pub taken-line-sound : (room : ℕ) → TakenSound P base chunk size gone r.next (chunks_handed lines P r room) (taken_into lines P r room)
  unfolding taken_into took chunks_handed
  taken-line-sound room = go (chosen lines P hs r.next r.keeping.point.0) refl
    where
      go : (c : Choice) → chosen lines P hs r.next r.keeping.point.0 ≡ c
          → TakenSound P base chunk size gone r.next (chunks_handed_by hs room c) (taken_by r (took_by line hs r.next room c))
      go none e = taken_none Nothing (λ q. refl)
      go (one l is) e = fits (ltb room (length_of hs is))
        where
          fits : (t : Bool)
              → TakenSound P base chunk size gone r.next (pick t [] (chunks_at hs is)) (taken_by r (pick t (record { answer = Short (length_of hs is); held = hs; next = r.next }) (record { answer = Taken (message_of (length_of hs is) (first_held (chunks_at hs is))); held = emptied hs is; next = advanced line r.next (first_held (chunks_at hs is)) })))
          fits true = taken_none (Short (length_of hs is)) (λ q. refl)
          fits false = taken-one is (picks l is e)
