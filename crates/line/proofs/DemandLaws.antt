-- Demand 3 holds of ours. Assumes nothing.
use Prim.Native.Nat.{ℕ, zero, suc, ◌+◌, ◌-◌, ◌*◌, ◌^◌, ◌<◌, ◌≤◌}
use Rattle.std.specs.Prelude.{◌≡◌, Bool, true, not, length, eqb, Option, Some, None}
use Rattle.std.proofs.Math.Path.{refl, sym, ap}
use Rattle.std.proofs.Common.{◌∙◌, subst, mod-eq_of_lt, arith}
use Rattle.std.proofs.Math.Bool.{false}
use mathlib.Core.List.{List, [], ◌∷◌, ◌++◌, map}
use mir.Val.{bool_byte as bit}
use Rattle.std.proofs.Math.Nat.{add-mod_right, mul-suc}
use borrow.Author.Tests.{le-leb, le-ltb, eq-eqb, eqb-true, ne_eqb}
use Rattle.std.proofs.Math.ListN.{get_or}
use Rattle.scans.specs.Scan.{pick, tick, count, any, find_from, find-within}
use Rattle.scans.specs.CountsLaws.{tick-bit, count_none, count_set}
use Rattle.scans.specs.Each.{found-at, after-not}
use Rattle.numbers.specs.declared.circle.Tsn.{Tsn}
use Rattle.numbers.specs.declared.keeping.Keeping.{Keeping}
use Rattle.numbers.specs.declared.circle.Judgement.TheVariants.{AheadWithin}
use Rattle.numbers.specs.Numbering.{Numberings, ring, line, rings, lines, far}
use Rattle.numbers.specs.Judgement.{judged}
use Rattle.numbers.specs.Profile.{Profile, rail}
use Rattle.numbers.specs.Keeping as keeping
use Rattle.numbers.specs.Keeping.{Bounded}
use Rattle.numbers.specs.KeepingLaws.{fresh-bounded, marked-bounded, listed-bounded, told-bounded}
use Rattle.numbers.specs.KeepingLineLaws.{reduce_tsn}
use Rattle.numbers.specs.KeepingRoomLaws.{Distinct}
use Rattle.holding.specs.declared.held.Chunk.{Chunk}
use Rattle.holding.specs.declared.held.Held.{Held}
use Rattle.holding.specs.declared.taking.Message.{Message}
use Rattle.holding.specs.declared.taking.Answer.{Answer as Taking}
use Rattle.holding.specs.declared.taking.Answer.TheVariants.{Taken, Nothing, Short}
use Rattle.holding.specs.Held.{no_held, as_held, holds, holds-is, is_held_free}
use Rattle.delivery.specs.declared.receiving.Receiving.{Receiving}
use Rattle.delivery.specs.declared.arrival.Verdict.{Verdict}
use Rattle.delivery.specs.declared.arrival.Verdict.TheVariants.{Kept, Empty, Long, Opposite, Duplicate, Wedged, Far, Stray, Clashing}
use Rattle.delivery.specs.Receiving.{fresh_receiving, is_low, low_of, taken_into}
use Rattle.delivery.specs.Arrival.{verdict_number, is_repeat, is_wedged, judgement_of, verdict_of, duplicate_noted, stray_passed, kept_in, receiving_after, arrived, kept_at_place}
use Rattle.delivery.specs.ReceivingSack.{receiving_sack, receiving_told, acknowledged_receiving}
use Rattle.line.specs.Reduce.{reduce_chunk, reduce_message, reduce_taken}
use Rattle.line.specs.Runs.{ReceiverEvent, arrive, take, sack, EventAnswer, judges, gives, tells, ReceiverLent, EventTurn, event_turn, start, answers, finally, reduce_event, reduce_answer, reduce_lent, Fair, copies, chunks_handed, takes_handed, joined_all, is_ordered_in, ssn_of, order_given, up_from, chunks_from, Genuine}
use Rattle.line.specs.Sender.{HonestSender, ordinal}
use Rattle.line.specs.Demand.{Receiver, HostSaw, number, gave, seen, receiver_over, on_the_line, ours, reduce_seen, Premises, first, line_seen, lent_line_after, host_seen, host_after, GivenMessage, given_by, given, Span, IsThere, Match, ordinals, Messages, Holds, Demand, Demand3, state_after, told}
use Rattle.line.proofs.AgreeLaws.{fresh-receiving-law}
use Rattle.line.proofs.AgreementLaws as agreement
use Rattle.line.specs.CountLaws.{copies-cons}
use Rattle.line.specs.ChosenLaws.{holds-eqb}
use Rattle.line.specs.ContradictionsLaws.{never-contradicted}
use Rattle.line.specs.LineSoundLaws.{Wide, came-ahead, come-ahead, near}
use Rattle.line.specs.ArrivesLaws.{SoundOf, kept-once}
use Rattle.line.proofs.SequenceLaws.{NearAlong, arrive-alike, take-alike, sack-alike, near-along, fresh-line-sound, sound-from, arrive-sound, acknowledged-line-sound, copies-append}
use Rattle.line.specs.TakesLaws.{taken-line-sound}
use Rattle.line.proofs.PayloadsLaws.{Lodged, lodged-fresh, lodged-arrive, lodged-take, lodged-sack, genuine}

-- ---- what the host sees

-- call by call
module _ (R : Receiver) (streams : ℕ) (s : R.State) where
  pub seen_none : (seen R streams s [] ≡ []) × (state_after R streams s [] ≡ s)
  unfolding seen state_after
  seen_none = (refl, refl)

  module _ (es : List ReceiverEvent) where
    pub seen-arrive : (c : Chunk) (bytes : List ℕ)
        → (seen R streams s (arrive c bytes ∷ es) ≡ number (R.arrive streams s c bytes).answer ∷ seen R streams (R.arrive streams s c bytes).left es)
        × (state_after R streams s (arrive c bytes ∷ es) ≡ state_after R streams (R.arrive streams s c bytes).left es)
    unfolding seen state_after
    seen-arrive c bytes = (refl, refl)

    pub seen-take : (out : List ℕ)
        → (seen R streams s (take out ∷ es) ≡ gave out (R.take s out).answer.answer (R.take s out).answer.output ∷ seen R streams (R.take s out).left es)
        × (state_after R streams s (take out ∷ es) ≡ state_after R streams (R.take s out).left es)
    unfolding seen state_after
    seen-take out = (refl, refl)

    pub seen-sack : (seen R streams s (sack ∷ es) ≡ told (R.sack s).answer ∷ seen R streams (R.sack s).left es)
        × (state_after R streams s (sack ∷ es) ≡ state_after R streams (R.sack s).left es)
    unfolding seen state_after
    seen-sack = (refl, refl)

-- of an answer; a take's output was lent as `out`
abbrev shown_as : List ℕ → EventAnswer → HostSaw
shown_as out (judges v) = number (verdict_number v)
shown_as out (gives t now) = gave out t now
shown_as out (tells s) = told s

module _ (P : Profile) (h k streams : ℕ) where
  abbrev N : ℕ
  N = h + h

  abbrev M : ℕ
  M = k + k

  abbrev R : Receiver
  R = receiver_over (rings N M) P

  seen-along : (es : List ReceiverEvent) (l : ReceiverLent) → NearAlong P h k streams l es
      → seen R streams (reduce_lent N M l) (map (reduce_event N M) es) ≡ map (reduce_seen N M) (seen (on_the_line P) streams l es)
  unfolding seen
  seen-along [] l w = refl
  seen-along (arrive c bytes ∷ es) l w =
      ap (λ (t : EventTurn). shown_as [] t.answer ∷ seen R streams t.lent (map (reduce_event N M) es)) (arrive-alike P h k streams l w.0 c bytes w.1)
      ∙ ap (λ (zs : List HostSaw). shown_as [] (event_turn lines P streams l (arrive c bytes)).answer ∷ zs) (seen-along es (event_turn lines P streams l (arrive c bytes)).lent w.2)
  seen-along (take out ∷ es) l w =
      ap (λ (t : EventTurn). shown_as out t.answer ∷ seen R streams t.lent (map (reduce_event N M) es)) (take-alike P h k streams l w.0 out)
      ∙ ap (λ (zs : List HostSaw). shown_as out (reduce_answer N M (event_turn lines P streams l (take out)).answer) ∷ zs) (seen-along es (event_turn lines P streams l (take out)).lent w.1)
  seen-along (sack ∷ es) l w =
      ap (λ (t : EventTurn). shown_as [] t.answer ∷ seen R streams t.lent (map (reduce_event N M) es)) (sack-alike P h k streams l)
      ∙ ap (λ (zs : List HostSaw). shown_as [] (reduce_answer N M (event_turn lines P streams l sack).answer) ∷ zs) (seen-along es (event_turn lines P streams l sack).lent w)

module _ (N : Numberings) (P : Profile) (streams : ℕ) where
  after_is : (es : List ReceiverEvent) (l : ReceiverLent) → state_after (receiver_over N P) streams l es ≡ finally N P streams l es
  unfolding state_after finally
  after_is [] l = refl
  after_is (arrive c bytes ∷ es) l = after_is es (event_turn N P streams l (arrive c bytes)).lent
  after_is (take out ∷ es) l = after_is es (event_turn N P streams l (take out)).lent
  after_is (sack ∷ es) l = after_is es (event_turn N P streams l sack).lent

-- ---- the messages that takes gave

-- numbers none of which is there more than once
distinct-all : (ts : List ℕ) → ((j : ℕ) → count (λ (y : ℕ). eqb y j) ts ≤ 1) → Distinct ts
distinct-all [] f = tt
distinct-all (t ∷ ts) f = (
  count_none (λ (y : ℕ). eqb y t) ts (omega (arith, f t, tick-bit (eqb t t) (count (λ (y : ℕ). eqb y t) ts), ap bit (eq-eqb t t refl))),
  distinct-all ts (λ j. omega (arith, f j, tick-bit (eqb t j) (count (λ (y : ℕ). eqb y j) ts))),
)

-- an index of what was given, with no more of each number among its firsts than in the chunks cs, and for each stream these SSNs in order
record Indexed (m base : ℕ) (chunk : ℕ → Chunk) (payload : ℕ → List ℕ) (gs : List GivenMessage) (cs : List Held) (os : ℕ → List ℕ) : Type 0 where
  index : List Span
  there : Match (IsThere m base chunk payload) index gs
  once : (j : ℕ) → count (λ (y : ℕ). eqb y j) (map (λ (s : Span). s.at) index) ≤ copies cs j
  order : (q : ℕ) → ordinals base chunk q index ≡ os q

module _ {P : Profile} {base streams : ℕ} {chunk : ℕ → Chunk} (payload : ℕ → List ℕ) (send : HonestSender P base streams chunk) (n m : ℕ) where
  abbrev size : ℕ → ℕ
  size j = length (payload j)

  head-copies : (f k j : ℕ) → base ≤ f → 0 < k → bit (eqb f j) ≤ copies (chunks_from chunk size f k) j
  head-copies f zero j l s = absurd (omega arith)
  head-copies f (suc k) j l s =
      let x : Held = as_held (chunk f) (size f) in
      omega (arith, copies-cons x (chunks_from chunk size (suc f) k) j, ap bit (holds-eqb f j x (holds-is f x refl (send.number f l))))

  module _ (out : List ℕ) (gs : List GivenMessage) (css : List Held) (os : ℕ → List ℕ) where
    step : (t : Taking) (now : List ℕ) (cs : List Held) → Genuine base chunk payload out cs t now → Indexed m base chunk payload gs css os
        → Indexed m base chunk payload (given_by out (reduce_taken m t) now gs) (cs ++ css) (λ q. pick (is_ordered_in q t) (ssn_of t ∷ os q) (os q))
    step Nothing now cs g i = record { index = i.index; there = i.there; once = λ j. omega (arith, i.once j, copies-append cs css j); order = i.order }
    step (Short z) now cs g i = record { index = i.index; there = i.there; once = λ j. omega (arith, i.once j, copies-append cs css j); order = i.order }
    step (Taken x) now cs g i = record {
      index = s ∷ i.index;
      there = (record { cut = g.cut; message = ap (reduce_message m) g.told; bytes = g.written_is }, i.there);
      once = λ j.
          omega
          (arith, i.once j, copies-append cs css j, tick-bit (eqb f j) (count (λ (y : ℕ). eqb y j) (map (λ (s : Span). s.at) i.index)), head-copies f g.count j g.cut.from g.cut.some, ap (λ (xs : List Held). copies xs j) g.given_is);
      order = λ q.
          both q (pick (chunk f).unordered false (eqb (chunk f).stream.0 q)) refl
          ∙ ap (λ (y : Message). pick (is_ordered_in q (Taken y)) (ssn_of (Taken y) ∷ os q) (os q)) (sym g.told);
    }
      where
        f : ℕ
        f = g.at

        s : Span
        s = record { at = f; count = g.count }

        both : (q : ℕ) (b : Bool) → pick (chunk f).unordered false (eqb (chunk f).stream.0 q) ≡ b
            → pick b (ordinal base chunk q f ∷ ordinals base chunk q i.index) (ordinals base chunk q i.index) ≡ pick b ((chunk f).ssn.0 ∷ os q) (os q)
        both q false e = i.order q
        both q true e =
            let w = after-not (chunk f).unordered (eqb (chunk f).stream.0 q) e in
            let o : (chunk f).ssn.0 ≡ ordinal base chunk q f
            = send.in_order f g.cut.from g.cut.begins w.0 ∙ ap (λ (y : ℕ). ordinal base chunk y f) (eqb-true (chunk f).stream.0 q w.1) in
            ap (λ (y : ℕ). y ∷ ordinals base chunk q i.index) (sym o) ∙ ap (λ (ys : List ℕ). (chunk f).ssn.0 ∷ ys) (i.order q)

  indexed : (h : ℕ) (es : List ReceiverEvent) (l : ReceiverLent) {gone : ℕ → ℕ} {least : ℕ} → SoundOf P base chunk size l.receiving gone least
      → Lodged P payload l.area l.receiving.held → Fair P h base chunk payload streams l es
      → Indexed m base chunk payload (given (map (reduce_seen n m) (seen (on_the_line P) streams l es))) (joined_all (takes_handed P streams l es)) (λ q. order_given q (answers lines P streams l es))
  unfolding seen answers
  indexed h [] l s w f = record { index = []; there = tt; once = λ j. omega arith; order = λ q. refl }
  indexed h (arrive c bytes ∷ es) l s w f =
      let x = f.0 in
      indexed h es (event_turn lines P streams l (arrive c bytes)).lent (arrive-sound payload send l.receiving s x.0 x.1 c bytes x.2 x.3)
      (lodged-arrive payload send l w x.0 x.1 c bytes x.2 x.3 s.held-long) f.1
  indexed h (take out ∷ es) l s w f =
      let l' : ReceiverLent = (event_turn lines P streams l (take out)).lent in
      step out (given (map (reduce_seen n m) (seen (on_the_line P) streams l' es))) (joined_all (takes_handed P streams l' es)) (λ q. order_given q (answers lines P streams l' es))
      (taken_into lines P l.receiving (length out)).answer _ (chunks_handed lines P l.receiving (length out)) (genuine payload send l s w out)
      (indexed h es l' (taken-line-sound send l.receiving s (length out)).sound (lodged-take payload send l w out) f)
  indexed h (sack ∷ es) l s w f = indexed h es (event_turn lines P streams l sack).lent (acknowledged-line-sound l.receiving s) (lodged-sack payload send l w) f

-- ---- progress

-- "offset 1 not come", after any sequence
after-bounded : (P : Profile) (r : Receiving) (c : Held) (v : Verdict) → Bounded P r.keeping → Bounded P (receiving_after line P r c v).keeping
unfolding duplicate_noted stray_passed kept_at_place
after-bounded P r c Kept b = place (find_from is_held_free 0 r.held)
  where
    place : (f : Option ℕ) → Bounded P (kept_in line P r c f).keeping
    place (Some i) = marked-bounded line P r.keeping c.tsn.0 b
    place None = marked-bounded line P r.keeping c.tsn.0 b
after-bounded P r c Duplicate b = listed-bounded P r.keeping c.tsn b
after-bounded P r c Stray b = marked-bounded line P r.keeping c.tsn.0 b
after-bounded P r c Empty b = b
after-bounded P r c Long b = b
after-bounded P r c Opposite b = b
after-bounded P r c Wedged b = b
after-bounded P r c Far b = b
after-bounded P r c Clashing b = b

bounded-from : (P : Profile) (streams : ℕ) (es : List ReceiverEvent) (l : ReceiverLent) → Bounded P l.receiving.keeping → Bounded P (finally lines P streams l es).receiving.keeping
unfolding finally arrived taken_into acknowledged_receiving receiving_told
bounded-from P streams [] l b = b
bounded-from P streams (arrive c bytes ∷ es) l b =
    bounded-from P streams es (event_turn lines P streams l (arrive c bytes)).lent
    (after-bounded P l.receiving (as_held c (length bytes)) (verdict_of lines P l.receiving (as_held c (length bytes)) streams) b)
bounded-from P streams (take out ∷ es) l b = bounded-from P streams es (event_turn lines P streams l (take out)).lent b
bounded-from P streams (sack ∷ es) l b = bounded-from P streams es (event_turn lines P streams l sack).lent (told-bounded P l.receiving.keeping b)

start-bounded : (P : Profile) (t : Tsn) → Bounded P (fresh_receiving line P t).keeping
unfolding fresh_receiving
start-bounded P t = fresh-bounded line P t

next-judged : (p room t : ℕ) → t ≡ suc p → 1 ≤ room → judged line p room t ≡ AheadWithin 1
unfolding judged far
next-judged p room t e l =
    let q : t - p ≡ 1 = omega arith in
    rw (le-leb p t (omega arith), q, le-ltb room 1 l)

module _ {P : Profile} {base streams : ℕ} {chunk : ℕ → Chunk} {size : ℕ → ℕ} {gone : ℕ → ℕ} {least : ℕ} (send : HonestSender P base streams chunk)
    (r : Receiving) (s : SoundOf P base chunk size r gone least) (b : Bounded P r.keeping) (j : ℕ) (next : j ≡ suc r.keeping.point.0)
    (some : 1 ≤ size j) (fits : size j ≤ P.payload) (room : low_of line r < P.places) where
  abbrev p : ℕ
  p = r.keeping.point.0

  abbrev t : ℕ
  t = (chunk j).tsn.0

  from : base ≤ j
  from = omega (arith, s.start)

  t-is : t ≡ suc p
  t-is = send.number j from ∙ next

  flag : get_or r.keeping.come (j - suc p) false ≡ false
  flag = let q : j - suc p ≡ 0 = omega arith in ap (λ (x : ℕ). get_or r.keeping.come x false) q ∙ b.first

  not-held : copies r.held j ≡ 0
  not-held = omega (arith, s.once j, ap bit (came-ahead base p r.keeping.come j from (omega arith) ∙ flag))

  new : is_repeat line r.keeping r.held t ≡ false
  unfolding is_repeat copies
  new =
      let a : keeping.is_come line r.keeping t ≡ false
      = come-ahead r.keeping t (omega (arith, t-is)) ∙ (ap (λ (x : ℕ). get_or r.keeping.come (x - suc p) false) (send.number j from) ∙ flag) in
      let c : any (holds t) r.held ≡ false = count_none (holds t) r.held (ap (λ (x : ℕ). count (holds x) r.held) (send.number j from) ∙ not-held) in
      rw (a, c)

  not_full : is_wedged lines P (low_of line r) r.held r.next p ≡ false
  unfolding is_wedged
  not_full = rw (ne_eqb (low_of line r) P.places (λ e. omega arith))

  -- the next chunk is answered 0
  next-kept : verdict_of lines P r (as_held (chunk j) (size j)) streams ≡ Kept
  unfolding verdict_of judgement_of
  next-kept =
      rw
      (le-ltb (size j) 1 some, le-ltb P.payload (size j) fits, next-judged p (P.places - low_of line r) t t-is (omega arith), new, not_full, send.agreed j from, never-contradicted send size r.held s.real j (size j) from)

  -- and takes a place
  one_less : count is_held_free (arrived lines P r (as_held (chunk j) (size j)) streams).receiving.held + 1 ≡ count is_held_free r.held
  unfolding arrived stray_passed kept_at_place
  one_less =
      ap (λ (v : Verdict). count is_held_free (receiving_after line P r c v).held + 1) next-kept
      ∙ go (find_from is_held_free 0 r.held) refl (subst (λ (v : Verdict). copies (receiving_after line P r c v).held j ≡ 1) next-kept (kept-once send r s j from next-kept))
    where
      c : Held
      c = as_held (chunk j) (size j)

      go : (f : Option ℕ) → find_from is_held_free 0 r.held ≡ f → copies (kept_in line P r c f).held j ≡ 1 → count is_held_free (kept_in line P r c f).held + 1 ≡ count is_held_free r.held
      go None e q = absurd (omega (arith, q, not-held))
      go (Some i) e q =
          omega
          (arith, count_set is_held_free no_held r.held i c (omega (arith, find-within is_held_free r.held 0 i e)), ap bit (found-at is_held_free no_held r.held i e))

  window-less : (acknowledged_receiving P (arrived lines P r (as_held (chunk j) (size j)) streams).receiving).sack.window + P.payload ≡ (acknowledged_receiving P r).sack.window
  unfolding acknowledged_receiving receiving_sack
  window-less =
      let a : ℕ = count is_held_free (arrived lines P r (as_held (chunk j) (size j)) streams).receiving.held in
      let e : suc a ≡ count is_held_free r.held = omega (arith, one_less) in
      omega (arith, mul-suc P.payload a, ap (λ (x : ℕ). P.payload * x) e)

-- the answer to an arrival, and the window that a SACK tells
abbrev number_in : EventAnswer → ℕ
number_in (judges v) = verdict_number v
number_in (gives t out) = 0
number_in (tells s) = 0

abbrev window_in : EventAnswer → ℕ
window_in (judges v) = 0
window_in (gives t out) = 0
window_in (tells s) = s.window

-- ---- demand 3

module _ (P : Profile) (h k : ℕ) (wh : Wide P h) (wk : Wide P k) where
  abbrev R' : Receiver
  R' = receiver_over (rings (h + h) (k + k)) P

  module _ (c : Premises P h) where
    abbrev t' : Tsn
    t' = record { 0 = first c }

    abbrev from' : ReceiverLent
    from' = start line P t' c.area

    abbrev last : ReceiverLent
    last = finally lines P c.streams from' c.events

    positive : 0 < first c
    positive = omega (arith, c.small)

    initial-is : reduce_tsn (h + h) t' ≡ record { 0 = c.initial }
    initial-is = ap (λ (y : ℕ). record { 0 = y }) (add-mod_right c.initial (h + h) ∙ mod-eq_of_lt c.small)

    fresh-sound' : SoundOf P (first c) c.chunk (λ j. length (c.payload j)) from'.receiving (λ j. 0) (first c)
    fresh-sound' = fresh-line-sound P c.chunk (λ j. length (c.payload j)) t' positive

    starts-alike : start (ring (h + h)) P (record { 0 = c.initial }) c.area ≡ reduce_lent (h + h) (k + k) from'
    starts-alike = ap (λ (x : Tsn). start (ring (h + h)) P x c.area) (sym initial-is) ∙ ap (λ (r : Receiving). record { receiving = r; area = c.area }) (fresh-receiving-law P h k t' (omega arith) positive)

    sees : host_seen c (k + k) R' ≡ map (reduce_seen (h + h) (k + k)) (line_seen c)
    sees =
        ap (λ (l : ReceiverLent). seen R' c.streams l (map (reduce_event (h + h) (k + k)) c.events)) starts-alike
        ∙ seen-along P h k c.streams c.events from' (near-along c.payload c.honest h k wh wk c.events from' fresh-sound' c.fair)

    given-messages : P.payload * P.places ≤ length c.area → Messages (k + k) (first c) c.chunk c.payload (given (host_seen c (k + k) R'))
    given-messages long = record {
      index = i.index;
      genuine = subst (λ (zs : List HostSaw). Match (IsThere (k + k) (first c) c.chunk c.payload) i.index (given zs)) (sym sees) i.there;
      different = distinct-all (map (λ (s : Span). s.at) i.index) (λ j. omega (arith, i.once j, agreement.none-twice P h t' positive c.streams c.area c.chunk c.payload c.honest c.events c.fair j));
      in_order = λ q. subst (λ (xs : List ℕ). xs ≡ up_from 0 (length xs)) (sym (i.order q)) (agreement.in_order P h t' positive c.streams c.area c.chunk c.payload c.honest c.events c.fair q);
    }
      where
        i : Indexed (k + k) (first c) c.chunk c.payload (given (map (reduce_seen (h + h) (k + k)) (line_seen c))) (joined_all (takes_handed P c.streams from' c.events)) (λ q. order_given q (answers lines P c.streams from' c.events))
        i = indexed c.payload c.honest (h + h) (k + k) h c.events from' fresh-sound' (lodged-fresh P c.payload c.area t' long) c.fair

    line-last : lent_line_after c ≡ last
    line-last = after_is lines P c.streams c.events from'

    host-last : host_after c (k + k) R' ≡ reduce_lent (h + h) (k + k) last
    host-last =
        after_is (rings (h + h) (k + k)) P c.streams (map (reduce_event (h + h) (k + k)) c.events) (start (ring (h + h)) P (record { 0 = c.initial }) c.area)
        ∙ (ap (λ (x : Tsn). finally (rings (h + h) (k + k)) P c.streams (start (ring (h + h)) P x c.area) (map (reduce_event (h + h) (k + k)) c.events)) (sym initial-is)
        ∙ (agreement.agrees P h t' positive c.streams c.area c.chunk c.payload c.honest c.events c.fair k wh wk).1)

    -- the chunk of number j is held by a receiver that keeps l
    abbrev Moves : ℕ → ReceiverLent → Type 0
    Moves j l = Holds P R' c.streams l (reduce_chunk (h + h) (k + k) (c.chunk j)) (c.payload j)

    module _ (j : ℕ) (next : j ≡ suc last.receiving.keeping.point.0) (some : 1 ≤ length (c.payload j)) (fits : length (c.payload j) ≤ P.payload)
        (room : low_of line last.receiving < P.places) where
      moves : Moves j (reduce_lent (h + h) (k + k) last)
      unfolding arrived
      moves =
          let w = sound-from c.payload c.honest h c.events from' fresh-sound' c.fair in
          let b : Bounded P last.receiving.keeping = bounded-from P c.streams c.events from' (start-bounded P t') in
          let e : (c.chunk j).tsn.0 ≡ j = c.honest.number j (omega (arith, w.2.start)) in
          let a = arrive-alike P h k c.streams last (near c.honest w.2 h k wh wk) (c.chunk j) (c.payload j) (omega arith) in
          let l' : ReceiverLent = (event_turn lines P c.streams last (arrive (c.chunk j) (c.payload j))).lent in (
            ap (λ (x : EventTurn). number_in x.answer) a ∙ ap verdict_number (next-kept c.honest last.receiving w.2 b j next some fits room),
            ap (λ (x : EventTurn). (acknowledged_receiving P x.lent.receiving).sack.window + P.payload) a
                ∙ (ap (λ (x : EventTurn). window_in x.answer + P.payload) (sack-alike P h k c.streams l')
                ∙ (window-less c.honest last.receiving w.2 b j next some fits room
                ∙ sym (ap (λ (x : EventTurn). window_in x.answer) (sack-alike P h k c.streams last)))),
          )

  -- every profile's receiver, on circles that are wide enough for its places
  pub demanded : Demand P h k R'
  demanded = record {
    agrees = sees;
    messages = given-messages;
    progress = λ c j e some fits room.
        subst (Moves c j) (sym (host-last c))
        (moves c j (e ∙ ap (λ (l : ReceiverLent). suc l.receiving.keeping.point.0) (line-last c)) some fits (subst (λ (l : ReceiverLent). low_of line l.receiving < P.places) (line-last c) room));
  }

-- what is low is not free
low_free : (k : Keeping) (hs : List Held) → count (is_low line k) hs + count is_held_free hs ≤ length hs
unfolding is_low
low_free k [] = omega arith
low_free k (x ∷ hs) = go x.used (keeping.is_come line k x.tsn.0) (low_free k hs)
  where
    go : (u t : Bool) → count (is_low line k) hs + count is_held_free hs ≤ length hs → tick (pick u (not t) false) (count (is_low line k) hs) + tick (not u) (count is_held_free hs) ≤ suc (length hs)
    go true true l = omega arith
    go true false l = omega arith
    go false t l = omega arith

-- what meets the demand holds the next chunk while a place is free
pub held-while-free : {P : Profile} {h k : ℕ} {R : Receiver} → Demand P h k R → (c : Premises P h) (j : ℕ) → j ≡ suc (lent_line_after c).receiving.keeping.point.0
    → 1 ≤ length (c.payload j) → length (c.payload j) ≤ P.payload → 0 < count is_held_free (lent_line_after c).receiving.held
    → Holds P R c.streams (host_after c (k + k) R) (reduce_chunk (h + h) (k + k) (c.chunk j)) (c.payload j)
unfolding low_of
held-while-free {P} {h} {k} {R} d c j e some fits free =
    let w = sound-from c.payload c.honest h c.events (start line P (record { 0 = first c }) c.area) (fresh-line-sound P c.chunk (λ i. length (c.payload i)) (record { 0 = first c }) (omega (arith, c.small))) c.fair in
    let a : length (lent_line_after c).receiving.held ≡ P.places
    = ap (λ (l : ReceiverLent). length l.receiving.held) (after_is lines P c.streams c.events (start line P (record { 0 = first c }) c.area)) ∙ w.2.held-long in
    d.progress c j e some fits (omega (arith, low_free (lent_line_after c).receiving.keeping (lent_line_after c).receiving.held))

-- DEMAND 3
pub demand-3 : Demand3 ours
demand-3 = demanded rail (2 ^ 31) (2 ^ 15) (omega arith) (omega arith)
