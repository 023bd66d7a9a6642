-- The loops over the places of a message, what a take leaves of the words, and that the words then show what a take leaves of places and SSNs. Assumes nothing.
use Rattle.std.specs.Prelude.{ℕ, ◌+◌, ◌*◌, ◌^◌, ◌<◌, ◌≤◌, ◌≡◌, Bool, List, [], ◌∷◌, ◌++◌, take, drop, get_or, set, ltb, Option, Some, None, IfSome, IsSome}
use Rattle.std.proofs.Math.Path.{refl, ap}
use Rattle.std.proofs.Common.{sym, ◌∙◌, subst, arith, add-one, get_or-take, take-suc-set}
use Rattle.std.proofs.Math.Bool.{true, false}
use borrow.Author.Tests.{lt-ltb, le-ltb}
use Rattle.std.proofs.Math.ListN.{length}
use Rattle.numbers.specs.declared.circle.Ssn.{Ssn}
use Rattle.numbers.specs.Circle.{ssn0}
use Rattle.numbers.specs.Numbering.{Numbering, Numberings, ring, circles, on}
use Rattle.numbers.specs.Profile.{Profile}
use Rattle.numbers.specs.ReachLaws.{on-On}
use Rattle.octets.specs.Bytes.{laid}
use Rattle.octets.specs.BytesLaws.{length-laid}
use Rattle.scans.specs.Scan.{pick, left_one, left-none, Summing, sum_more}
use Rattle.scans.specs.Upto.{upto-one}
use Rattle.holding.specs.declared.held.Held.{Held}
use Rattle.holding.specs.declared.message.Best.{Best}
use Rattle.holding.specs.declared.taking.Answer.{Answer}
use Rattle.holding.specs.declared.taking.Answer.TheVariants.{Taken, Short}
use Rattle.holding.specs.declared.taking.Took.{Took}
use Rattle.holding.specs.Held.{no_held}
use Rattle.holding.specs.Message.{Run, broken, whole, Choice, chosen, none, one, chunks_at, follow}
use Rattle.holding.specs.MessageLaws.{RunGathering, joined_run, first_place, best_of_choice, Heads, follow-heads}
use Rattle.holding.specs.Taking.{len_at, length_of, first_held, payload_at, copied, message_of, emptied, advanced, took_by, took, written}
use Rattle.holding.specs.TakingLaws.{chosen-run, found-one, leads_at, place-within, took-none}
use Rattle.holding.specs.HoldingTableLaws.{advanced-is, took-is}
use Rattle.tables.specs.HeldWords.{held_of, held_freed}
use Rattle.tables.specs.HeldWordsLaws.{held-long, held-put, none-small, held-put-long}
use Rattle.tables.specs.Ssns.{ssns_of, ssn_put, ssn-put, ssn-put-long, ssn-small}
use Rattle.taking.specs.TakeWords.{run_at, words_emptied, ssns_advanced, take_words, ssns_by, words_taken, ssns_taken}

-- the first of the 128 places of a list stand for the run, if it is whole
pub record Noted (at : List ℕ) (found : Option ℕ) (r : Run) : Type 0 where
  pub few : IfSome found (λ (n : ℕ). n ≤ 128)
  pub long : length at ≡ 128
  pub run : run_at at found ≡ r

-- ---- following a run, its places noted in a list

-- the last chunk of a run is noted: the list stands for the run
pub gather-whole : {T : Numbering} {hs : List Held} {first : Held} {m place : ℕ} {at : List ℕ} {i : ℕ} {cur : Held} {n : ℕ}
    → RunGathering T hs first m place at i cur n → n < m → cur.end ≡ true → run_at (set at n i) (Some (n + 1)) ≡ follow T hs first m place first
unfolding follow
gather-whole {T} {hs} {first} {m} {place} {at} {i} {cur} {n} w h t =
    let noted : take (n + 1) (set at n i) ≡ take n at ++ (i ∷ []) = rw (add-one n) (take-suc-set at n i (omega (arith, w.room))) in
    rw noted
    (rw t at (upto-one (λ (k : ℕ). joined_run (take n at) (follow T hs first k i cur)) m n w.rest h))

-- ---- the loops over the places of a list

-- the length of one chunk more
pub add-place : (hs : List Held) (at : List ℕ) (n : ℕ) {a j : ℕ} → Summing (len_at hs) 65535 (take n at) n j a → {i v : ℕ} → j < n → i ≡ get_or at j 0 → v ≡ len_at hs i
    → v ≤ 65535 → Summing (len_at hs) 65535 (take n at) n (j + 1) (a + v)
add-place hs at n {a} {j} s {i} {v} h z e l = sum_more s 0 v h (e ∙ ap (len_at hs) (z ∙ sym (get_or-take n at j 0 h))) l

-- the message copied up to its j-th chunk
pub record Copying (P : Profile) (area : List ℕ) (hs : List Held) (out list : List ℕ) (now : List ℕ) (at j : ℕ) : Type 0 where
  pub long : length now ≡ length out
  pub small : at ≤ 65535 * j
  pub rest : copied P area hs now at (drop j list) ≡ copied P area hs out 0 list

module _ {P : Profile} {area : List ℕ} {hs : List Held} {out list : List ℕ} {now : List ℕ} {at j : ℕ} (s : Copying P area hs out list now at j) where
  pub copy_more : {v : ℕ} {then : List ℕ} → j < length list → v ≡ len_at hs (get_or list j 0) → v ≤ 65535 → then ≡ laid now at (payload_at P area (get_or list j 0) v)
      → Copying P area hs out list then (at + v) (j + 1)
  copy_more {v} {then} h e l q = record {
    long = ap length q ∙ (length-laid now at (payload_at P area (get_or list j 0) v) ∙ s.long);
    small = omega (arith, s.small);
    rest = rw (q, e) (left_one (copied P area hs now at) list j s.rest 0 h);
  }

  pub copy-end : length list ≤ j → now ≡ copied P area hs out 0 list
  copy-end h = left-none (copied P area hs now at) list j s.rest h

-- the places freed up to the j-th
pub record Clearing (P : Profile) (ws list : List ℕ) (now : List ℕ) (j : ℕ) : Type 0 where
  pub rest : words_emptied P now (drop j list) ≡ words_emptied P ws list

module _ {P : Profile} {ws list : List ℕ} {now : List ℕ} {j : ℕ} (s : Clearing P ws list now j) where
  pub clear-more : {then : List ℕ} → j < length list → then ≡ held_freed P now (get_or list j 0) → Clearing P ws list then (j + 1)
  clear-more {then} l q = record { rest = rw q (left_one (words_emptied P now) list j s.rest 0 l) }

  pub clear-end : length list ≤ j → now ≡ words_emptied P ws list
  clear-end l = left-none (words_emptied P now) list j s.rest l

-- ---- what a take finds

-- the places is, of which the first is `place`, are the choice
pub record ChoiceGiven (N : Numberings) (P : Profile) (hs : List Held) (next : List Ssn) (point place : ℕ) (is : List ℕ) : Type 0 where
  pub rank : ℕ
  pub choice : chosen N P hs next point ≡ one rank is
  pub others : List ℕ
  pub leads : is ≡ place ∷ others

run_is : (at : List ℕ) (n : ℕ) (is : List ℕ) → run_at at (Some n) ≡ whole is → take n at ≡ is
run_is at n is e = cc

run_some : (at : List ℕ) (found : Option ℕ) (is : List ℕ) → run_at at found ≡ whole is → IsSome found
run_some at None is e = let z : ◌≡◌ {A = ℕ} 0 1 = cc in absurd (omega arith)
run_some at (Some n) is e = refl

module _ (N : Numberings) (P : Profile) (ws ns : List ℕ) (point : ℕ) {found : Option Best} (b : found ≡ best_of_choice (chosen N P (held_of P ws) (ssns_of P ns) point))
    {best : Best} (s : found ≡ Some best) where
  -- the place of the choice is one
  pub place-there : best.place < P.places
  place-there = omega (arith, held-long P ws, place-within N P (held_of P ws) (ssns_of P ns) point b s)

  module _ {at : List ℕ} {count : Option ℕ} (h : Held) (e : h ≡ get_or (held_of P ws) best.place no_held)
      (g : Noted at count (follow N.tsn (held_of P ws) h P.places best.place h)) where
    given-run : (is : List ℕ) × (others : List ℕ) × (k : ℕ) × (chosen N P (held_of P ws) (ssns_of P ns) point ≡ one k is) × (is ≡ best.place ∷ others) × (run_at at count ≡ whole is)
    given-run =
        let f = found-one N P (held_of P ws) (ssns_of P ns) point b s in
        let w = rw f.2 at (chosen-run N P (held_of P ws) (ssns_of P ns) point) in
        let v = subst (Heads w.0) w.2 (follow-heads N.tsn (held_of P ws) (get_or (held_of P ws) w.0 no_held) P.places w.0 (get_or (held_of P ws) w.0 no_held)) in
        let q : best.place ≡ w.0 = leads_at N P (held_of P ws) (ssns_of P ns) point b s f.2 ∙ ap first_place v.1 in
        let r : run_at at count ≡ whole f.1 = g.run ∙ (ap (λ (x : Held). follow N.tsn (held_of P ws) x P.places best.place x) e ∙ (ap (λ (i : ℕ). follow N.tsn (held_of P ws) (get_or (held_of P ws) i no_held) P.places i (get_or (held_of P ws) i no_held)) q ∙ w.2)) in
        (f.1, v.0, f.0, f.2, v.1 ∙ ap (λ (i : ℕ). i ∷ v.0) (sym q), r)

    -- its run is whole
    pub given-some : IsSome count
    given-some = run_some at count given-run.0 given-run.5

    pub given-at : {n : ℕ} → count ≡ Some n → ChoiceGiven N P (held_of P ws) (ssns_of P ns) point best.place (take n at)
    given-at {n} c =
        let f = given-run in
        let z : take n at ≡ f.0 = run_is at n f.0 (ap (run_at at) (sym c) ∙ f.5) in
        record { rank = f.2; choice = f.3 ∙ ap (one f.2) (sym z); others = f.1; leads = z ∙ f.4 }

-- ---- what a take leaves of the words, what it answers, and what it writes

module _ {N : Numberings} {P : Profile} (ws ns : List ℕ) {point place : ℕ} {is : List ℕ} (w : ChoiceGiven N P (held_of P ws) (ssns_of P ns) point place is)
    {n : ℕ} (e : n ≡ length_of (held_of P ws) is) where
  first-is : first_held (chunks_at (held_of P ws) is) ≡ get_or (held_of P ws) place no_held
  first-is = ap (λ (js : List ℕ). first_held (chunks_at (held_of P ws) js)) w.leads

  pub words-short : (room : ℕ) → room < n → ws ≡ words_taken N P ws ns point room
  unfolding words_taken
  words-short room h = rw (w.choice, ← e, lt-ltb room n h)

  pub words-all : (room : ℕ) {then : List ℕ} → n ≤ room → then ≡ words_emptied P ws is → then ≡ words_taken N P ws ns point room
  unfolding words_taken
  words-all room h q = rw (w.choice, ← e, le-ltb room n h) q

  pub ssns-short : (room : ℕ) → room < n → ns ≡ ssns_taken N P ws ns point room
  unfolding ssns_taken
  ssns-short room h = rw (w.choice, ← e, lt-ltb room n h)

  pub ssns-all : (room : ℕ) {then : List ℕ} → n ≤ room → then ≡ ssns_advanced N.ssn P ns (get_or (held_of P ws) place no_held)
      → then ≡ ssns_taken N P ws ns point room
  unfolding ssns_taken
  ssns-all room h q = rw (w.choice, ← e, le-ltb room n h, first-is) q

  pub answer-short : (room : ℕ) → room < n → Short n ≡ (took N P (held_of P ws) (ssns_of P ns) point room).answer
  answer-short room h = rw (took-is N P (held_of P ws) (ssns_of P ns) point room, w.choice, ← e, lt-ltb room n h)

  pub answer-all : (room : ℕ) → n ≤ room
      → Taken (message_of n (get_or (held_of P ws) place no_held)) ≡ (took N P (held_of P ws) (ssns_of P ns) point room).answer
  answer-all room h = rw (took-is N P (held_of P ws) (ssns_of P ns) point room, w.choice, ← e, le-ltb room n h, first-is)

  pub table-written-short : (area out : List ℕ) → length out < n → out ≡ written N P (held_of P ws) (ssns_of P ns) point area out
  unfolding written
  table-written-short area out h = rw (w.choice, ← e, lt-ltb (length out) n h)

  pub table-written-all : (area out : List ℕ) {filled : List ℕ} → n ≤ length out → filled ≡ copied P area (held_of P ws) out 0 is
      → filled ≡ written N P (held_of P ws) (ssns_of P ns) point area out
  unfolding written
  table-written-all area out h q = rw (w.choice, ← e, le-ltb (length out) n h) q

module _ (N : Numberings) (P : Profile) (ws ns : List ℕ) (point : ℕ) (e : chosen N P (held_of P ws) (ssns_of P ns) point ≡ none) where
  pub words-none : (room : ℕ) → ws ≡ words_taken N P ws ns point room
  unfolding words_taken
  words-none room = rw e

  pub ssns-none : (room : ℕ) → ns ≡ ssns_taken N P ws ns point room
  unfolding ssns_taken
  ssns-none room = rw e

  pub answer-none : (room : ℕ) → Answer.Nothing ≡ (took N P (held_of P ws) (ssns_of P ns) point room).answer
  answer-none room = ap (λ (t : Took). t.answer) (took-none N P (held_of P ws) (ssns_of P ns) point e room)

-- ---- the words then show what a take leaves

pub emptied-shows : (P : Profile) (ws is : List ℕ) → 4 * P.places ≤ length ws → held_of P (words_emptied P ws is) ≡ emptied (held_of P ws) is
emptied-shows P ws [] l = refl
emptied-shows P ws (i ∷ is) l =
    emptied-shows P (held_freed P ws i) is (omega (arith, held-put-long P ws i no_held))
    ∙ ap (λ (hs : List Held). emptied hs is) (held-put P ws i no_held l none-small)

pub emptied-words : (P : Profile) (ws is : List ℕ) → length (words_emptied P ws is) ≡ length ws
emptied-words P ws [] = refl
emptied-words P ws (i ∷ is) = emptied-words P (held_freed P ws i) is ∙ held-put-long P ws i no_held

pub advanced-shows : (P : Profile) (ns : List ℕ) (h : Held) → P.streams ≤ length ns
    → ssns_of P (ssns_advanced (ring (2 ^ 16)) P ns h) ≡ advanced (ring (2 ^ 16)) (ssns_of P ns) h
unfolding ssns_advanced
advanced-shows P ns h l = go h.unordered ∙ sym (advanced-is (ring (2 ^ 16)) (ssns_of P ns) h)
  where
    x : Ssn
    x = record { 0 = on (ring (2 ^ 16)) (get_or (ssns_of P ns) h.stream.0 ssn0).0 1 }

    go : (t : Bool) → ssns_of P (pick t ns (ssn_put P ns h.stream.0 x)) ≡ pick t (ssns_of P ns) (set (ssns_of P ns) h.stream.0 x)
    go true = refl
    go false = ssn-put P ns h.stream.0 x l (on-On (ring (2 ^ 16)) (get_or (ssns_of P ns) h.stream.0 ssn0).0 1 (ssn-small P ns h.stream.0))

module _ (P : Profile) (ws ns : List ℕ) (point room : ℕ) where
  pub words-took : 4 * P.places ≤ length ws
      → held_of P (words_taken circles P ws ns point room) ≡ (took circles P (held_of P ws) (ssns_of P ns) point room).held
  unfolding words_taken
  words-took l = go (chosen circles P (held_of P ws) (ssns_of P ns) point) ∙ ap (λ (t : Took). t.held) (sym (took-is circles P (held_of P ws) (ssns_of P ns) point room))
    where
      go : (c : Choice) → held_of P (take_words P ws room c) ≡ (took_by (ring (2 ^ 16)) (held_of P ws) (ssns_of P ns) room c).held
      go none = refl
      go (one k is) = side (ltb room (length_of (held_of P ws) is))
        where
          side : (t : Bool)
              → held_of P (pick t ws (words_emptied P ws is)) ≡ (pick {A = Took} t (record { answer = Short (length_of (held_of P ws) is); held = held_of P ws; next = ssns_of P ns }) (record { answer = Taken (message_of (length_of (held_of P ws) is) (first_held (chunks_at (held_of P ws) is))); held = emptied (held_of P ws) is; next = advanced (ring (2 ^ 16)) (ssns_of P ns) (first_held (chunks_at (held_of P ws) is)) })).held
          side true = refl
          side false = emptied-shows P ws is l

  pub ssns-took : P.streams ≤ length ns
      → ssns_of P (ssns_taken circles P ws ns point room) ≡ (took circles P (held_of P ws) (ssns_of P ns) point room).next
  unfolding ssns_taken
  ssns-took l = go (chosen circles P (held_of P ws) (ssns_of P ns) point) ∙ ap (λ (t : Took). t.next) (sym (took-is circles P (held_of P ws) (ssns_of P ns) point room))
    where
      go : (c : Choice) → ssns_of P (ssns_by (ring (2 ^ 16)) P ws ns room c) ≡ (took_by (ring (2 ^ 16)) (held_of P ws) (ssns_of P ns) room c).next
      go none = refl
      go (one k is) = side (ltb room (length_of (held_of P ws) is))
        where
          side : (t : Bool)
              → ssns_of P (pick t ns (ssns_advanced (ring (2 ^ 16)) P ns (first_held (chunks_at (held_of P ws) is)))) ≡ (pick {A = Took} t (record { answer = Short (length_of (held_of P ws) is); held = held_of P ws; next = ssns_of P ns }) (record { answer = Taken (message_of (length_of (held_of P ws) is) (first_held (chunks_at (held_of P ws) is))); held = emptied (held_of P ws) is; next = advanced (ring (2 ^ 16)) (ssns_of P ns) (first_held (chunks_at (held_of P ws) is)) })).next
          side true = refl
          side false = advanced-shows P ns (first_held (chunks_at (held_of P ws) is)) l

-- ---- the tables stay as long as they were

advanced-words : (S : Numbering) (P : Profile) (ns : List ℕ) (h : Held) → length (ssns_advanced S P ns h) ≡ length ns
unfolding ssns_advanced
advanced-words S P ns h = go h.unordered
  where
    go : (t : Bool) → length (pick t ns (ssn_put P ns h.stream.0 (record { 0 = on S (get_or (ssns_of P ns) h.stream.0 ssn0).0 1 }))) ≡ length ns
    go true = refl
    go false = ssn-put-long P ns h.stream.0 (record { 0 = on S (get_or (ssns_of P ns) h.stream.0 ssn0).0 1 })

module _ (N : Numberings) (P : Profile) (ws ns : List ℕ) (point room : ℕ) where
  pub words_long : length (words_taken N P ws ns point room) ≡ length ws
  unfolding words_taken
  words_long = go (chosen N P (held_of P ws) (ssns_of P ns) point)
    where
      go : (c : Choice) → length (take_words P ws room c) ≡ length ws
      go none = refl
      go (one k is) = side (ltb room (length_of (held_of P ws) is))
        where
          side : (t : Bool) → length (pick t ws (words_emptied P ws is)) ≡ length ws
          side true = refl
          side false = emptied-words P ws is

  pub ssns-taken-long : length (ssns_taken N P ws ns point room) ≡ length ns
  unfolding ssns_taken
  ssns-taken-long = go (chosen N P (held_of P ws) (ssns_of P ns) point)
    where
      go : (c : Choice) → length (ssns_by N.ssn P ws ns room c) ≡ length ns
      go none = refl
      go (one k is) = side (ltb room (length_of (held_of P ws) is))
        where
          side : (t : Bool) → length (pick t ns (ssns_advanced N.ssn P ns (first_held (chunks_at (held_of P ws) is)))) ≡ length ns
          side true = refl
          side false = advanced-words N.ssn P ns (first_held (chunks_at (held_of P ws) is))
