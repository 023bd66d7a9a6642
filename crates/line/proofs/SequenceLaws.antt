-- Any sequence of events: the circle answers as the line, each number that came is held or was given once, and each stream's ordered messages are
-- given in order. Assumes nothing.
use Prim.Native.Nat.{ℕ, zero, suc, ◌+◌, ◌-◌, ◌%◌, ◌<◌, ◌≤◌}
use Rattle.std.specs.Prelude.{◌≡◌, Bool, true, false, length, get_or, replicate, eqb, leb, ltb, Option, Some, None}
use Rattle.std.proofs.Math.Path.{refl, ap}
use Rattle.std.proofs.Common.{sym, ◌∙◌, subst, arith, le-ltb, leb-false}
use mathlib.Core.List.{List, [], ◌∷◌, ◌++◌, map}
use mir.Val.{bool_byte as bit}
use Rattle.std.proofs.Math.Decide.{dec_lt}
use Rattle.std.proofs.Math.ListN.{length-replicate}
use Rattle.scans.specs.Scan.{pick, count, any, find_from}
use Rattle.scans.specs.CountsLaws.{tick-bit}
use Rattle.scans.specs.Each.{All, if-not, clash}
use Rattle.numbers.specs.declared.circle.Tsn.{Tsn}
use Rattle.numbers.specs.declared.circle.Ssn.{Ssn}
use Rattle.numbers.specs.Circle.{ssn0}
use Rattle.numbers.specs.Numbering.{line, rings, lines, before, NearerThan}
use Rattle.numbers.specs.Profile.{Profile}
use Rattle.numbers.specs.Keeping.{fresh_keeping, keeping_told}
use Rattle.numbers.specs.KeepingLaws.{told-point}
use Rattle.numbers.specs.Blocks.{blocks_of}
use Rattle.numbers.specs.BlocksLaws.{has, block_list, blocks-have, blocks-listed}
use Rattle.holding.specs.declared.held.Chunk.{Chunk}
use Rattle.holding.specs.declared.held.Held.{Held}
use Rattle.holding.specs.declared.taking.Answer.{Answer as Taking}
use Rattle.holding.specs.declared.taking.Answer.TheVariants.{Taken, Nothing, Short}
use Rattle.holding.specs.Held.{no_held, as_held, holds, is_held_free}
use Rattle.holding.specs.Taking.{first_held, written}
use Rattle.delivery.specs.declared.receiving.Receiving.{Receiving}
use Rattle.delivery.specs.declared.receiving.Taken.{Taken as Left}
use Rattle.delivery.specs.declared.arrival.Arrival.{Arrival}
use Rattle.delivery.specs.declared.arrival.Verdict.{Verdict}
use Rattle.delivery.specs.declared.arrival.Verdict.TheVariants.{Kept, Empty, Long, Opposite, Duplicate, Wedged, Far, Stray, Clashing}
use Rattle.delivery.specs.declared.acknowledging.Acknowledged.{Acknowledged}
use Rattle.delivery.specs.Receiving.{fresh_receiving, taken_into}
use Rattle.delivery.specs.Arrival.{verdict_of, duplicate_noted, stray_passed, kept_in, receiving_after, arrived, arrival_area, kept_at_place}
use Rattle.delivery.specs.ReceivingSack.{receiving_sack, receiving_told, acknowledged_receiving}
use Rattle.line.specs.Reduce.{reduce_held, reduce_ssn, reduce, reduce_taken}
use Rattle.line.specs.Runs.{ReceiverEvent, arrive, take, sack, EventAnswer, judges, gives, tells, Never, ReceiverLent, EventTurn, event_turn, answers, finally, reduce_event, reduce_answer, reduce_lent, Fair, copies, chunks_handed, takes_handed, joined_all, is_ordered_in, ssn_of, order_given, up_from, acknowledges}
use Rattle.line.specs.Sender.{HonestSender}
use Rattle.line.specs.Near.{Near}
use Rattle.line.proofs.AgreeLaws.{arrived-law, area-law, taken-law, written-law, sack-law}
use Rattle.line.specs.CountLaws.{holds-none, copies-nil, copies-cons}
use Rattle.line.specs.ChosenLaws.{Real}
use Rattle.line.specs.LineSoundLaws.{LineSound, came, Wide, came-before, came-ahead, near}
use Rattle.line.specs.ArrivesLaws.{SoundOf, arrived-line-sound, not-clashing}
use Rattle.line.specs.TakesLaws.{TakenSound, taken-line-sound}

-- ---- one event, where what is held is near: the circle's turn is the line's, reduced

module _ (P : Profile) (h k streams : ℕ) where
  abbrev N : ℕ
  N = h + h

  abbrev M : ℕ
  M = k + k

  abbrev pub EventAgrees : ReceiverLent → ReceiverEvent → Type 0
  EventAgrees l e = event_turn (rings N M) P streams (reduce_lent N M l) (reduce_event N M e) ≡ record {
    answer = reduce_answer N M (event_turn lines P streams l e).answer;
    lent = reduce_lent N M (event_turn lines P streams l e).lent;
  }

  module _ (l : ReceiverLent) where
    abbrev r : Receiving
    r = l.receiving

    pub arrive-alike : Near h k r → (c : Chunk) (bytes : List ℕ) → NearerThan h r.keeping.point.0 c.tsn.0 → EventAgrees l (arrive c bytes)
    arrive-alike near c bytes w =
        ap (λ (a : Arrival). record { answer = judges a.verdict; lent = record { receiving = a.receiving; area = arrival_area (rings N M) P (reduce N M r) (reduce_held N M x) streams l.area bytes } })
        (arrived-law P h k r near x w streams)
        ∙ ap (λ (a : List ℕ). record { answer = judges (arrived lines P r x streams).verdict; lent = record { receiving = reduce N M (arrived lines P r x streams).receiving; area = a } })
        (area-law P h k r near x w streams l.area bytes)
      where
        x : Held
        x = as_held c (length bytes)

    pub take-alike : Near h k r → (out : List ℕ) → EventAgrees l (take out)
    take-alike near out =
        ap (λ (t : Left). record { answer = gives t.answer (written (rings N M) P (map (reduce_held N M) r.held) (map (reduce_ssn M) r.next) (r.keeping.point.0 % N) l.area out); lent = record { receiving = t.receiving; area = l.area } })
        (taken-law P h k r near (length out))
        ∙ ap (λ (o : List ℕ). record { answer = gives (reduce_taken M (taken_into lines P r (length out)).answer) o; lent = record { receiving = reduce N M (taken_into lines P r (length out)).receiving; area = l.area } })
        (written-law P h k r near l.area out)

    pub sack-alike : EventAgrees l sack
    unfolding acknowledged_receiving
    sack-alike = ap (λ (a : Acknowledged). record { answer = tells a.sack; lent = record { receiving = a.receiving; area = l.area } }) (sack-law P h k r)

  -- any sequence: equal answers, and then again the line's record reduced, with the same area
  abbrev pub Agrees : ReceiverLent → List ReceiverEvent → Type 0
  Agrees l es =
      (answers (rings N M) P streams (reduce_lent N M l) (map (reduce_event N M) es) ≡ map (reduce_answer N M) (answers lines P streams l es))
      × (finally (rings N M) P streams (reduce_lent N M l) (map (reduce_event N M) es) ≡ reduce_lent N M (finally lines P streams l es))

  then : (l : ReceiverLent) (e : ReceiverEvent) (es : List ReceiverEvent) → EventAgrees l e → Agrees (event_turn lines P streams l e).lent es → Agrees l (e ∷ es)
  unfolding answers finally
  then l e es a b = (
    ap (λ (t : EventTurn). t.answer ∷ answers (rings N M) P streams t.lent (map (reduce_event N M) es)) a
        ∙ ap (λ (zs : List EventAnswer). reduce_answer N M (event_turn lines P streams l e).answer ∷ zs) b.0,
    ap (λ (t : EventTurn). finally (rings N M) P streams t.lent (map (reduce_event N M) es)) a ∙ b.1,
  )

  none_left : (l : ReceiverLent) → Agrees l []
  unfolding answers finally
  none_left l = (refl, refl)

  -- along a run of the line receiver, from any record, what is held is near whenever it counts, and each chunk arrives near the point
  abbrev pub NearAlong : ReceiverLent → List ReceiverEvent → Type 0
  NearAlong l [] = Unit
  NearAlong l (arrive c bytes ∷ es) =
      Near h k l.receiving × NearerThan h l.receiving.keeping.point.0 c.tsn.0 × NearAlong (event_turn lines P streams l (arrive c bytes)).lent es
  NearAlong l (take out ∷ es) = Near h k l.receiving × NearAlong (event_turn lines P streams l (take out)).lent es
  NearAlong l (sack ∷ es) = NearAlong (event_turn lines P streams l sack).lent es

  -- then the circle agrees, whatever the chunks are
  pub agree-along : (es : List ReceiverEvent) (l : ReceiverLent) → NearAlong l es → Agrees l es
  agree-along [] l w = none_left l
  agree-along (arrive c bytes ∷ es) l w =
      then l (arrive c bytes) es (arrive-alike l w.0 c bytes w.1) (agree-along es (event_turn lines P streams l (arrive c bytes)).lent w.2)
  agree-along (take out ∷ es) l w = then l (take out) es (take-alike l w.0 out) (agree-along es (event_turn lines P streams l (take out)).lent w.1)
  agree-along (sack ∷ es) l w = then l sack es (sack-alike l) (agree-along es (event_turn lines P streams l sack).lent w)

-- ---- the line receiver is sound

none-copies : (k n : ℕ) → copies (replicate k no_held) n ≡ 0
unfolding copies holds
none-copies zero n = refl
none-copies (suc k) n = none-copies k n

pub same_at : {A : Type 0} (k i : ℕ) (a : A) → get_or (replicate k a) i a ≡ a
same_at zero i a = refl
same_at (suc k) zero a = refl
same_at (suc k) (suc i) a = same_at k i a

all_same : {A : Type 0} (Q : A → Type 0) (k : ℕ) (a : A) → Q a → All Q (replicate k a)
all_same Q zero a h = tt
all_same Q (suc k) a h = (h, all_same Q k a h)

module _ (P : Profile) (chunk : ℕ → Chunk) (size : ℕ → ℕ) (t : Tsn) (some : 0 < t.0) where
  pub fresh-line-sound : SoundOf P t.0 chunk size (fresh_receiving line P t) (λ n. 0) t.0
  unfolding fresh_receiving fresh_keeping before
  fresh-line-sound = record {
    held-long = length-replicate P.places no_held;
    come-long = length-replicate P.places false;
    next-long = length-replicate P.streams ssn0;
    real = all_same (Real t.0 chunk size) P.places no_held (λ e. clash e);
    start = omega arith;
    once = once;
    room = λ d e. clash (sym (same_at P.places d false) ∙ e);
    from = omega arith;
    stays = refl;
    lower = λ n a b. absurd (omega arith);
    upper = λ n a. absurd (omega arith);
    whole = λ n a b. refl;
    order = order;
  }
    where
      p : ℕ
      p = t.0 - 1

      once : (n : ℕ) → copies (replicate P.places no_held) n + 0 ≡ bit (came t.0 p (replicate P.places false) n)
      once n = omega (arith, none-copies P.places n, zero-came (dec_lt n t.0))
        where
          zero-came : Dec (n < t.0) → bit (came t.0 p (replicate P.places false) n) ≡ 0
          zero-came (yes l) = ap bit (came-before t.0 p (replicate P.places false) n l)
          zero-came (no l) =
              ap bit (came-ahead t.0 p (replicate P.places false) n (omega arith) (omega arith) ∙ same_at P.places (n - suc p) false)

      order : (n : ℕ) → t.0 ≤ n → (chunk n).begin ≡ true → (chunk n).unordered ≡ false
          → 0 ≡ bit (ltb (chunk n).ssn.0 (get_or (replicate P.streams ssn0) (chunk n).stream.0 ssn0).0)
      order n a b u =
          let e : (get_or (replicate P.streams ssn0) (chunk n).stream.0 ssn0).0 ≡ 0 = ap (λ (x : Ssn). x.0) (same_at P.streams (chunk n).stream.0 ssn0) in
          sym (ap bit (le-ltb (chunk n).ssn.0 (get_or (replicate P.streams ssn0) (chunk n).stream.0 ssn0).0 (omega arith)))

  pub fresh-next : (q : ℕ) → (get_or (fresh_receiving line P t).next q ssn0).0 ≡ 0
  unfolding fresh_receiving
  fresh-next q = ap (λ (x : Ssn). x.0) (same_at P.streams q ssn0)

pub acknowledged-line-sound : {P : Profile} {base : ℕ} {chunk : ℕ → Chunk} {size : ℕ → ℕ} {gone : ℕ → ℕ} {least : ℕ} (r : Receiving)
    → SoundOf P base chunk size r gone least → SoundOf P base chunk size (acknowledged_receiving P r).receiving gone least
unfolding acknowledged_receiving receiving_told
acknowledged-line-sound {P} {base} {chunk} {size} {gone} {least} r s =
    let w = told-point P r.keeping in
    subst (λ (x : Tsn). LineSound P base chunk size x.0 (keeping_told P r.keeping).come r.held r.next gone least) (sym w.0)
    (subst (λ (x : List Bool). LineSound P base chunk size r.keeping.point.0 x r.held r.next gone least) (sym w.1) s)

module _ {P : Profile} {base streams : ℕ} {chunk : ℕ → Chunk} (payload : ℕ → List ℕ) (send : HonestSender P base streams chunk) where
  abbrev size : ℕ → ℕ
  size n = length (payload n)

  pub arrive-sound : {gone : ℕ → ℕ} {least : ℕ} (r : Receiving) → SoundOf P base chunk size r gone least → (n : ℕ) → base ≤ n
      → (c : Chunk) (bytes : List ℕ) → c ≡ chunk n → bytes ≡ payload n
      → SoundOf P base chunk size (arrived lines P r (as_held c (length bytes)) streams).receiving gone least
  arrive-sound {gone} {least} r s n l c bytes e b =
      subst (λ (x : Chunk). SoundOf P base chunk size (arrived lines P r (as_held x (length bytes)) streams).receiving gone least) (sym e)
      (subst (λ (x : List ℕ). SoundOf P base chunk size (arrived lines P r (as_held (chunk n) (length x)) streams).receiving gone least) (sym b)
      (arrived-line-sound send r s n l))

  -- under the premises what is held stays near
  module _ (h k : ℕ) (lh : Wide P h) (lk : Wide P k) where
    pub near-along : (es : List ReceiverEvent) (l : ReceiverLent) {gone : ℕ → ℕ} {least : ℕ} → SoundOf P base chunk size l.receiving gone least
        → Fair P h base chunk payload streams l es → NearAlong P h k streams l es
    near-along [] l s f = tt
    near-along (arrive c bytes ∷ es) l s f =
        let x = f.0 in
        let e : c.tsn.0 ≡ x.0 = ap (λ (y : Chunk). y.tsn.0) x.2 ∙ send.number x.0 x.1 in
        (near send s h k lh lk, omega (arith, x.4), near-along es (event_turn lines P streams l (arrive c bytes)).lent (arrive-sound l.receiving s x.0 x.1 c bytes x.2 x.3) f.1)
    near-along (take out ∷ es) l s f =
        (near send s h k lh lk, near-along es (event_turn lines P streams l (take out)).lent (taken-line-sound send l.receiving s (length out)).sound f)
    near-along (sack ∷ es) l s f = near-along es (event_turn lines P streams l sack).lent (acknowledged-line-sound l.receiving s) f

  -- and no chunk of the sender is answered 21
  arrive-clear : {gone : ℕ → ℕ} {least : ℕ} (r : Receiving) → SoundOf P base chunk size r gone least → (n : ℕ) → base ≤ n
      → (c : Chunk) (bytes : List ℕ) → c ≡ chunk n → bytes ≡ payload n → (arrived lines P r (as_held c (length bytes)) streams).verdict ≡ Clashing → ⊥
  unfolding arrived
  arrive-clear r s n l c bytes e b q =
      not-clashing send r s n l
      (sym (ap (λ (x : Chunk). verdict_of lines P r (as_held x (length bytes)) streams) e ∙ ap (λ (x : List ℕ). verdict_of lines P r (as_held (chunk n) (length x)) streams) b) ∙ q)

  pub clear-along : (h : ℕ) (es : List ReceiverEvent) (l : ReceiverLent) {gone : ℕ → ℕ} {least : ℕ} → SoundOf P base chunk size l.receiving gone least
      → Fair P h base chunk payload streams l es → All (Never Clashing) (answers lines P streams l es)
  unfolding answers
  clear-along h [] l s f = tt
  clear-along h (arrive c bytes ∷ es) l s f =
      let x = f.0 in (
        arrive-clear l.receiving s x.0 x.1 c bytes x.2 x.3,
        clear-along h es (event_turn lines P streams l (arrive c bytes)).lent (arrive-sound l.receiving s x.0 x.1 c bytes x.2 x.3) f.1,
      )
  clear-along h (take out ∷ es) l s f = (tt, clear-along h es (event_turn lines P streams l (take out)).lent (taken-line-sound send l.receiving s (length out)).sound f)
  clear-along h (sack ∷ es) l s f = (tt, clear-along h es (event_turn lines P streams l sack).lent (acknowledged-line-sound l.receiving s) f)

-- an answer is another than a verdict on the circle too
pub reduced-never : (v : Verdict) (n m : ℕ) (xs : List EventAnswer) → All (Never v) xs → All (Never v) (map (reduce_answer n m) xs)
reduced-never v n m [] w = tt
reduced-never v n m (judges x ∷ xs) w = (w.0, reduced-never v n m xs w.1)
reduced-never v n m (gives t out ∷ xs) w = (tt, reduced-never v n m xs w.1)
reduced-never v n m (tells s ∷ xs) w = (tt, reduced-never v n m xs w.1)

-- ---- given once, and in order

pub copies-append : (xs ys : List Held) (n : ℕ) → copies (xs ++ ys) n ≡ copies xs n + copies ys n
copies-append [] ys n = omega (arith, copies-nil n)
copies-append (x ∷ xs) ys n = omega (arith, copies-cons x (xs ++ ys) n, copies-cons x xs n, copies-append xs ys n)

after_next : (P : Profile) (r : Receiving) (c : Held) (v : Verdict) → (receiving_after line P r c v).next ≡ r.next
unfolding duplicate_noted stray_passed kept_at_place
after_next P r c Kept = place (find_from is_held_free 0 r.held)
  where
    place : (f : Option ℕ) → (kept_in line P r c f).next ≡ r.next
    place (Some i) = refl
    place None = refl
after_next P r c Empty = refl
after_next P r c Long = refl
after_next P r c Opposite = refl
after_next P r c Duplicate = refl
after_next P r c Wedged = refl
after_next P r c Far = refl
after_next P r c Clashing = refl
after_next P r c Stray = refl

arrive-next : (P : Profile) (r : Receiving) (c : Held) (streams : ℕ) → (arrived lines P r c streams).receiving.next ≡ r.next
unfolding arrived
arrive-next P r c streams = after_next P r c (verdict_of lines P r c streams)

sack-next : (P : Profile) (r : Receiving) → (acknowledged_receiving P r).receiving.next ≡ r.next
unfolding acknowledged_receiving receiving_told
sack-next P r = refl

module _ {P : Profile} {base streams : ℕ} {chunk : ℕ → Chunk} (payload : ℕ → List ℕ) (send : HonestSender P base streams chunk) (h : ℕ) where
  abbrev next : ReceiverLent → ReceiverEvent → ReceiverLent
  next l e = (event_turn lines P streams l e).lent

  abbrev SoundHere : ReceiverLent → (ℕ → ℕ) → ℕ → Type 0
  SoundHere l gone least = SoundOf P base chunk (λ n. length (payload n)) l.receiving gone least

  -- after any sequence the line receiver is sound
  pub sound-from : (es : List ReceiverEvent) (l : ReceiverLent) {gone : ℕ → ℕ} {least : ℕ} → SoundHere l gone least → Fair P h base chunk payload streams l es
      → (now : ℕ → ℕ) × (low : ℕ) × SoundHere (finally lines P streams l es) now low
  unfolding finally
  sound-from [] l {gone} {least} s f = (gone, least, s)
  sound-from (arrive c bytes ∷ es) l s f =
      let x = f.0 in
      sound-from es (next l (arrive c bytes)) (arrive-sound payload send l.receiving s x.0 x.1 c bytes x.2 x.3) f.1
  sound-from (take out ∷ es) l s f = sound-from es (next l (take out)) (taken-line-sound send l.receiving s (length out)).sound f
  sound-from (sack ∷ es) l s f = sound-from es (next l sack) (acknowledged-line-sound l.receiving s) f

  pub once-from : (es : List ReceiverEvent) (l : ReceiverLent) {gone : ℕ → ℕ} {least : ℕ} → SoundHere l gone least → Fair P h base chunk payload streams l es
      → (n : ℕ) → gone n + copies (joined_all (takes_handed P streams l es)) n + copies (finally lines P streams l es).receiving.held n
      ≡ bit (came base (finally lines P streams l es).receiving.keeping.point.0 (finally lines P streams l es).receiving.keeping.come n)
  unfolding finally
  once-from [] l s f n = omega (arith, s.once n, copies-nil n)
  once-from (arrive c bytes ∷ es) l s f n =
      let x = f.0 in
      once-from es (next l (arrive c bytes)) (arrive-sound payload send l.receiving s x.0 x.1 c bytes x.2 x.3) f.1 n
  once-from (take out ∷ es) l s f n =
      let w = taken-line-sound send l.receiving s (length out) in
      omega
      (arith, copies-append (chunks_handed lines P l.receiving (length out)) (joined_all (takes_handed P streams (next l (take out)) es)) n, w.more n, once-from es (next l (take out)) w.sound f n)
  once-from (sack ∷ es) l s f n = once-from es (next l sack) (acknowledged-line-sound l.receiving s) f n

  abbrev Orderly : ℕ → ReceiverLent → List ReceiverEvent → Type 0
  Orderly q l es =
      order_given q (answers lines P streams l es) ≡ up_from (get_or l.receiving.next q ssn0).0 (length (order_given q (answers lines P streams l es)))

  -- an event that changes no next expected number
  orderly-as : (q : ℕ) (l m : ReceiverLent) (es : List ReceiverEvent) → m.receiving.next ≡ l.receiving.next → Orderly q m es
      → order_given q (answers lines P streams m es) ≡ up_from (get_or l.receiving.next q ssn0).0 (length (order_given q (answers lines P streams m es)))
  orderly-as q l m es e o = o ∙ ap (λ (x : List Ssn). up_from (get_or x q ssn0).0 (length (order_given q (answers lines P streams m es)))) e

  pub order_from : (q : ℕ) (es : List ReceiverEvent) (l : ReceiverLent) {gone : ℕ → ℕ} {least : ℕ} → SoundHere l gone least → Fair P h base chunk payload streams l es
      → Orderly q l es
  unfolding answers
  order_from q [] l s f = refl
  order_from q (arrive c bytes ∷ es) l s f =
      let x = f.0 in
      orderly-as q l (next l (arrive c bytes)) es (arrive-next P l.receiving (as_held c (length bytes)) streams)
      (order_from q es (next l (arrive c bytes)) (arrive-sound payload send l.receiving s x.0 x.1 c bytes x.2 x.3) f.1)
  order_from q (take out ∷ es) l {gone} s f = go (is_ordered_in q t.answer) refl (order_from q es (next l (take out)) w.sound f)
    where
      t : Left
      t = taken_into lines P l.receiving (length out)

      w : TakenSound P base chunk (λ n. length (payload n)) gone l.receiving.next (chunks_handed lines P l.receiving (length out)) t
      w = taken-line-sound send l.receiving s (length out)

      rest : List ℕ
      rest = order_given q (answers lines P streams (next l (take out)) es)

      go : (b : Bool) → is_ordered_in q t.answer ≡ b → rest ≡ up_from (get_or t.receiving.next q ssn0).0 (length rest)
          → pick b (ssn_of t.answer ∷ rest) rest ≡ up_from (get_or l.receiving.next q ssn0).0 (length (pick b (ssn_of t.answer ∷ rest) rest))
      go true e ih =
          let a : (get_or t.receiving.next q ssn0).0 ≡ (get_or l.receiving.next q ssn0).0 + 1 = w.ahead q ∙ ap (λ (b : Bool). (get_or l.receiving.next q ssn0).0 + bit b) e in
          ap (λ (x : ℕ). x ∷ rest) (w.given q e)
          ∙ ap (λ (x : List ℕ). (get_or l.receiving.next q ssn0).0 ∷ x) (ih ∙ ap (λ (x : ℕ). up_from x (length rest)) a)
      go false e ih =
          let a : (get_or t.receiving.next q ssn0).0 ≡ (get_or l.receiving.next q ssn0).0 = omega (arith, w.ahead q, ap bit e) in
          ih ∙ ap (λ (x : ℕ). up_from x (length rest)) a
  order_from q (sack ∷ es) l s f =
      orderly-as q l (next l sack) es (sack-next P l.receiving) (order_from q es (next l sack) (acknowledged-line-sound l.receiving s) f)

-- the same of the circle's answers
pub order-reduced : (n m q : ℕ) (zs : List EventAnswer) → order_given q (map (reduce_answer n m) zs) ≡ map (λ (x : ℕ). x % m) (order_given q zs)
order-reduced n m q [] = refl
order-reduced n m q (judges v ∷ zs) = order-reduced n m q zs
order-reduced n m q (gives t out ∷ zs) = go t (order_given q (map (reduce_answer n m) zs)) (order_given q zs) (order-reduced n m q zs)
  where
    both : (b : Bool) (x : ℕ) (cs bs : List ℕ) → cs ≡ map (λ (y : ℕ). y % m) bs → pick b (x % m ∷ cs) cs ≡ map (λ (y : ℕ). y % m) (pick b (x ∷ bs) bs)
    both true x cs bs e = ap (λ (l : List ℕ). x % m ∷ l) e
    both false x cs bs e = e

    go : (t : Taking) (cs bs : List ℕ) → cs ≡ map (λ (y : ℕ). y % m) bs
        → pick (is_ordered_in q (reduce_taken m t)) (ssn_of (reduce_taken m t) ∷ cs) cs ≡ map (λ (y : ℕ). y % m) (pick (is_ordered_in q t) (ssn_of t ∷ bs) bs)
    go (Taken x) cs bs e = both (pick x.unordered false (eqb x.stream.0 q)) x.ssn.0 cs bs e
    go Nothing cs bs e = e
    go (Short x) cs bs e = e
order-reduced n m q (tells s ∷ zs) = order-reduced n m q zs

-- a message given more than once would have its first chunk given more than once
pub firsts-copies : (css : List (List Held)) (n : ℕ) → count (λ (cs : List Held). holds n (first_held cs)) css ≤ copies (joined_all css) n
firsts-copies [] n = omega (arith, copies-nil n)
firsts-copies (cs ∷ css) n = one cs (firsts-copies css n)
  where
    one : (cs : List Held) → count (λ (xs : List Held). holds n (first_held xs)) css ≤ copies (joined_all css) n
        → count (λ (xs : List Held). holds n (first_held xs)) (cs ∷ css) ≤ copies (cs ++ joined_all css) n
    one [] ih = rw (holds-none n) ih
    one (x ∷ xs) ih =
        omega
        (arith, tick-bit (holds n x) (count (λ (ys : List Held). holds n (first_held ys)) css), copies-append (x ∷ xs) (joined_all css) n, copies-cons x xs n, ih)

-- what a SACK tells is what has come
pub told-come : (P : Profile) (r : Receiving) (base n : ℕ) → acknowledges base (acknowledged_receiving P r).sack n ≡ came base r.keeping.point.0 r.keeping.come n
unfolding acknowledges acknowledged_receiving receiving_sack came
told-come P r base n = if-not false (ltb n base) (λ _. if-not true (leb n p) (λ e. blocks (leb-false n p e)))
  where
    p : ℕ
    p = r.keeping.point.0

    blocks : p < n → any (has (n - p)) (block_list (blocks_of P r.keeping)) ≡ get_or r.keeping.come (n - suc p) false
    blocks l =
        let e : n - p - 1 ≡ n - suc p = omega arith in
        ap (any (has (n - p))) (blocks-listed P r.keeping)
        ∙ (blocks-have r.keeping.come (n - p) ∙ rw (le-ltb (n - p) 1 (omega arith), e))
