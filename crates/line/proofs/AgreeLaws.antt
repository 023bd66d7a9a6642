-- The circle answers as the line does, as long as what is held is near: each number within half a circle of the point, and each ordered
-- one's sequence number within half its circle of the next expected of its stream. Once for every size of the two circles and every profile.
-- Assumes nothing.
use Prim.Native.Nat.{ℕ, zero, suc, ◌+◌, ◌-◌, ◌%◌, ◌<◌, ◌≤◌}
use Rattle.std.specs.Prelude.{◌≡◌, Bool, set, get_or, eqb, leb, ltb, Option, Some, None}
use Rattle.std.proofs.Math.Path.{refl, ap}
use Rattle.std.proofs.Common.{sym, ◌∙◌, arith}
use Rattle.std.proofs.Math.Bool.{true, false, not, beq}
use mathlib.Core.List.{List, [], ◌∷◌, map}
use Rattle.std.proofs.Math.Nat.{zero-mod}
use Rattle.std.proofs.Math.Decide.{dec_le}
use borrow.Author.Tests.{not-false, eqb-true, le-leb, lt-leb}
use Rattle.std.proofs.Math.ListN.{get_or-map}
use Rattle.scans.specs.Scan.{pick, find_from, fold_from}
use Rattle.scans.specs.Each.{All, all_map, all-at, all_of, count_map, find-map, any-map, set-map, if-not, if-so, clash, found-at, replicate-kept}
use Rattle.numbers.specs.declared.circle.Tsn.{Tsn}
use Rattle.numbers.specs.declared.circle.Ssn.{Ssn}
use Rattle.numbers.specs.Circle.{ssn0}
use Rattle.numbers.specs.Numbering.{ring, line, rings, lines, on, key, NearerThan, far-law, on-law, same-law, key-law, key-line}
use Rattle.numbers.specs.Profile.{Profile}
use Rattle.numbers.specs.Judgement.{judged}
use Rattle.numbers.specs.KeepingLineLaws.{reduce_tsn, reduce_keeping, blocks-law, told-law, fresh-keeping-law, come-law, marked-law, listed-law}
use Rattle.octets.specs.Bytes.{laid}
use Rattle.holding.specs.declared.held.Held.{Held}
use Rattle.holding.specs.declared.taking.Took.{Took}
use Rattle.holding.specs.declared.taking.Answer.TheVariants.{Taken, Short}
use Rattle.holding.specs.Held.{no_held, is_held_free, holds, is_held}
use Rattle.holding.specs.Message.{Run, broken, whole, Choice, none, one, is_of_one, continues, led, onward, follow, is_left_end, is_expected, opens, ranked, better_message, chosen, is_one, chunks_at}
use Rattle.holding.specs.DueLaws.{due-law}
use Rattle.holding.specs.MessageLaws.{continues-holds}
use Rattle.holding.specs.Taking.{first_held, len_at, length_of, payload_at, copied, emptied, advanced, message_of, took_by, took, written_by, written}
use Rattle.delivery.specs.declared.receiving.Receiving.{Receiving}
use Rattle.delivery.specs.declared.arrival.Verdict.{Verdict}
use Rattle.delivery.specs.declared.arrival.Verdict.TheVariants.{Kept, Empty, Long, Opposite, Duplicate, Wedged, Far, Stray, Clashing}
use Rattle.delivery.specs.Receiving.{fresh_receiving, is_low, low_of, taken_by, taken_into}
use Rattle.delivery.specs.Arrival.{is_repeat, is_wedged, judgement_of, verdict_of, duplicate_noted, stray_passed, kept_in, receiving_after, arrived, stored_by, arrival_area, kept_at_place}
use Rattle.delivery.specs.Contradiction.{is_contradicted}
use Rattle.delivery.specs.ReceivingSack.{receiving_sack, receiving_told, acknowledged_receiving}
use Rattle.line.specs.Reduce.{reduce_ssn, reduce_held, reduce, reduce_taken, reduce_sack}
use Rattle.line.specs.ContradictionsLaws.{contradicted-law}
use Rattle.line.specs.Near.{NearHeld, Near}

left-used : (x : Held) → is_left_end x ≡ true → x.used ≡ true
unfolding is_left_end
left-used x e = go x.used e
  where
    go : (u : Bool) → pick u x.begin false ≡ true → u ≡ true
    go true e = refl
    go false e = clash e

continues-used : (first : Held) (t : ℕ) (x : Held) → continues first t x ≡ true → x.used ≡ true
continues-used first t x e = (is_held t x (continues-holds first t x e)).0

module _ (P : Profile) (h k : ℕ) where
  -- the circles' sizes
  abbrev n : ℕ
  n = h + h

  abbrev m : ℕ
  m = k + k

  abbrev down : Held → Held
  down = reduce_held n m

  down-none : down no_held ≡ no_held
  down-none = rw (zero-mod n, zero-mod m)

  down-at : (hs : List Held) (i : ℕ) → get_or (map down hs) i no_held ≡ down (get_or hs i no_held)
  down-at hs i = ap (λ (d : Held). get_or (map down hs) i d) (sym down-none) ∙ get_or-map down hs i no_held

  ssn-none : reduce_ssn m ssn0 ≡ ssn0
  ssn-none = rw (zero-mod m)

  next-at : (next : List Ssn) (s : ℕ) → (get_or (map (reduce_ssn m) next) s ssn0).0 ≡ (get_or next s ssn0).0 % m
  next-at next s =
      ap (λ (x : Ssn). x.0)
      (ap (λ (d : Ssn). get_or (map (reduce_ssn m) next) s d) (sym ssn-none) ∙ get_or-map (reduce_ssn m) next s ssn0)

  -- ---- of what is held

  module _ (p : ℕ) (next : List Ssn) where
    abbrev Good : Held → Type 0
    Good = NearHeld h k p next

    holds-law : (t : ℕ) → (x : Held) → (x.used ≡ true → NearerThan n x.tsn.0 t) → holds (t % n) (down x) ≡ holds t x
    unfolding holds
    holds-law t x w = if-so false x.used (λ e. same-law n x.tsn.0 t (w e))

    opens-law : (x : Held) → Good x → opens (ring m) P (map (reduce_ssn m) next) (down x) ≡ opens line P next x
    unfolding opens is_left_end is_expected
    opens-law x g =
        if-so false (pick x.used x.begin false)
        (λ e.
        if-not true x.unordered
        (λ f.
        if-so false (ltb x.stream.0 P.streams)
        (λ _.
        let v = g.ssn (left-used x e) f in
        rw (next-at next x.stream.0) (due-law k (get_or next x.stream.0 ssn0).0 x.ssn.0 v))))

    none-good : Good no_held
    none-good = record { tsn = λ e. clash e; ssn = λ e. clash e }

    -- the message of a first chunk that is held
    module _ (first : Held) (gf : Good first) (uf : first.used ≡ true) where
      of-one-law : (x : Held) → Good x → x.used ≡ true → is_of_one (down first) (down x) ≡ is_of_one first x
      unfolding is_of_one
      of-one-law x g u =
          if-not false (not (eqb x.stream.0 first.stream.0))
          (λ s.
          if-not false (not (beq x.unordered first.unordered))
          (λ b.
          if-not true x.unordered
          (λ f.
          let z = eqb-true x.stream.0 first.stream.0 (not-false _ s) in
          let a : NearerThan k (get_or next first.stream.0 ssn0).0 x.ssn.0 = rw z at (g.ssn u f) in
          let c = gf.ssn uf (ordered x.unordered first.unordered (not-false _ b) f) in
          same-law m x.ssn.0 first.ssn.0 (omega arith))))
        where
          ordered : (a b : Bool) → beq a b ≡ true → a ≡ false → b ≡ false
          ordered true b e f = clash (sym f)
          ordered false true e f = clash e
          ordered false false e f = refl

      continues-law : (t : ℕ) → NearerThan h p t → (x : Held) → Good x
          → continues (down first) (on (ring n) (t % n) 1) (down x) ≡ continues first (on line t 1) x
      unfolding continues on
      continues-law t w x g =
          rw (on-law n t 1, holds-law (t + 1) x (λ u. let v = g.tsn u in omega arith))
          (if-not false (not (holds (t + 1) x))
          (λ e. if-not false x.begin (λ _. of-one-law x g (is_held (t + 1) x (not-false _ e)).0)))

      follow-law : (hs : List Held) → All Good hs → (more i : ℕ) (cur : Held) → Good cur → cur.used ≡ true
          → follow (ring n) (map down hs) (down first) more i (down cur) ≡ follow line hs first more i cur
      unfolding follow
      follow-law hs ws zero i cur gc uc = refl
      follow-law hs ws (suc more) i cur gc uc =
          if-not (whole (i ∷ [])) cur.end (λ _. ap (led i) (ap (onward over) look ∙ step (find_from p1 0 hs) refl (follow-law hs ws more)))
        where
          over : ℕ → Run
          over j = follow (ring n) (map down hs) (down first) more j (get_or (map down hs) j no_held)

          p1 : Held → Bool
          p1 = continues first (on line cur.tsn.0 1)

          look : find_from (continues (down first) (on (ring n) (cur.tsn.0 % n) 1)) 0 (map down hs) ≡ find_from p1 0 hs
          look = find-map down p1 _ 0 hs (all_map (continues-law cur.tsn.0 (gc.tsn uc)) hs ws)

          step : (f : Option ℕ) → find_from p1 0 hs ≡ f
              → ((j : ℕ) (x : Held) → Good x → x.used ≡ true → follow (ring n) (map down hs) (down first) more j (down x) ≡ follow line hs first more j x)
              → onward over f
              ≡ onward (λ (j : ℕ). follow line hs first more j (get_or hs j no_held)) f
          step None e ih = refl
          step (Some j) e ih =
              rw (down-at hs j)
              (ih j (get_or hs j no_held) (all-at Good hs j no_held none-good ws) (continues-used first _ _ (found-at p1 no_held hs j e)))

    -- ---- the choice of a message

    -- the key of the circle's choice is the line's, moved
    abbrev moved : Choice → Choice
    moved none = none
    moved (one l is) = one (l + h - p) is

    abbrev Ranks : Choice → Type 0
    Ranks none = Unit
    Ranks (one l is) = NearerThan h p l

    leb-moved : (a b : ℕ) → NearerThan h p a → NearerThan h p b → leb (a + h - p) (b + h - p) ≡ leb a b
    leb-moved a b v w = go (dec_le a b)
      where
        go : Dec (a ≤ b) → leb (a + h - p) (b + h - p) ≡ leb a b
        go (yes l) = le-leb (a + h - p) (b + h - p) (omega arith) ∙ sym (le-leb a b l)
        go (no l) = lt-leb (a + h - p) (b + h - p) (omega arith) ∙ sym (lt-leb a b (omega arith))

    ranked-law : (c : Choice) → Ranks c → (l : ℕ) → NearerThan h p l → (r : Run) → ranked (moved c) (l + h - p) r ≡ moved (ranked c l r)
    ranked-law c v l w broken = refl
    ranked-law none v l w (whole is) = refl
    ranked-law (one q js) v l w (whole is) = rw (leb-moved q l v w) (go (leb q l))
      where
        go : (t : Bool) → pick t (one (q + h - p) js) (one (l + h - p) is) ≡ moved (pick t (one q js) (one l is))
        go true = refl
        go false = refl

    ranks : (c : Choice) → Ranks c → (l : ℕ) → NearerThan h p l → (r : Run) → Ranks (ranked c l r)
    ranks c v l w broken = v
    ranks none v l w (whole is) = w
    ranks (one q js) v l w (whole is) = go (leb q l)
      where
        go : (t : Bool) → Ranks (pick t (one q js) (one l is))
        go true = v
        go false = w

    opens-used : (x : Held) → opens line P next x ≡ true → x.used ≡ true
    unfolding opens
    opens-used x e = left-used x (go (is_left_end x) e)
      where
        go : (u : Bool) → pick u (is_expected line P next x) false ≡ true → u ≡ true
        go true e = refl
        go false e = clash e

    module _ (hs : List Held) (ws : All Good hs) where
      better-law : (c : Choice) → Ranks c → (i : ℕ) (x : Held) → Good x
          → (better_message (rings n m) P (map down hs) (map (reduce_ssn m) next) (p % n) (moved c) i (down x) ≡ moved (better_message lines P hs next p c i x))
          × Ranks (better_message lines P hs next p c i x)
      unfolding better_message
      better-law c v i x g = rw (opens-law x g) (go (opens line P next x) refl)
        where
          go : (t : Bool) → opens line P next x ≡ t
              → (pick t (ranked (moved c) (key (ring n) (p % n) (x.tsn.0 % n)) (follow (ring n) (map down hs) (down x) P.places i (down x))) (moved c)
              ≡ moved (pick t (ranked c (key line p x.tsn.0) (follow line hs x P.places i x)) c))
              × Ranks (pick t (ranked c (key line p x.tsn.0) (follow line hs x P.places i x)) c)
          go true e =
              let u = opens-used x e in
              let w = g.tsn u in
              let r = follow line hs x P.places i x in
              (rw (key-law h p x.tsn.0 w, follow-law x g u hs ws P.places i x g u, key-line p x.tsn.0) (ranked-law c v x.tsn.0 w r), rw (key-line p x.tsn.0) (ranks c v x.tsn.0 w r))
          go false e = (refl, v)

      fold_law : (c : Choice) → Ranks c → (i : ℕ) (xs : List Held) → All Good xs
          → fold_from (better_message (rings n m) P (map down hs) (map (reduce_ssn m) next) (p % n)) (moved c) i (map down xs)
          ≡ moved (fold_from (better_message lines P hs next p) c i xs)
      fold_law c v i [] gs = refl
      fold_law c v i (x ∷ xs) gs =
          let b = better-law c v i x gs.0 in
          ap (λ (z : Choice). fold_from (better_message (rings n m) P (map down hs) (map (reduce_ssn m) next) (p % n)) z (i + 1) (map down xs)) b.0
          ∙ (fold_law (better_message lines P hs next p c i x) b.1 (i + 1) xs gs.1)

  -- ---- what needs no nearness

  pub free_law : (hs : List Held) → find_from is_held_free 0 (map down hs) ≡ find_from is_held_free 0 hs
  free_law hs = find-map down is_held_free is_held_free 0 hs (all_of _ (λ x. refl) hs)

  chunks-law : (hs : List Held) (is : List ℕ) → chunks_at (map down hs) is ≡ map down (chunks_at hs is)
  chunks-law hs [] = refl
  chunks-law hs (i ∷ is) = rw (down-at hs i, chunks-law hs is)

  emptied-law : (hs : List Held) (is : List ℕ) → emptied (map down hs) is ≡ map down (emptied hs is)
  emptied-law hs [] = refl
  emptied-law hs (i ∷ is) =
      ap (λ (xs : List Held). emptied xs is) (ap (set (map down hs) i) (sym down-none) ∙ set-map down hs i no_held) ∙ emptied-law (set hs i no_held) is

  first-law : (hs : List Held) → first_held (map down hs) ≡ down (first_held hs)
  first-law [] = sym down-none
  first-law (x ∷ hs) = refl

  len-law : (hs : List Held) (i : ℕ) → len_at (map down hs) i ≡ len_at hs i
  len-law hs i = ap (λ (x : Held). x.len) (down-at hs i)

  length-law : (hs : List Held) (is : List ℕ) → length_of (map down hs) is ≡ length_of hs is
  length-law hs [] = refl
  length-law hs (i ∷ is) = rw (len-law hs i, length-law hs is)

  copied-law : (area : List ℕ) (hs : List Held) (out : List ℕ) (at : ℕ) (is : List ℕ) → copied P area (map down hs) out at is ≡ copied P area hs out at is
  copied-law area hs out at [] = refl
  copied-law area hs out at (i ∷ is) = rw (len-law hs i) (copied-law area hs (laid out at (payload_at P area i (len_at hs i))) (at + len_at hs i) is)

  advanced-law : (next : List Ssn) (x : Held) → advanced (ring m) (map (reduce_ssn m) next) (down x) ≡ map (reduce_ssn m) (advanced line next x)
  unfolding advanced
  advanced-law next x = rw (next-at next x.stream.0, on-law m (get_or next x.stream.0 ssn0).0 1) (go x.unordered)
    where
      more : Ssn
      more = record { 0 = on line (get_or next x.stream.0 ssn0).0 1 }

      go : (t : Bool) → pick t (map (reduce_ssn m) next) (set (map (reduce_ssn m) next) x.stream.0 (reduce_ssn m more)) ≡ map (reduce_ssn m) (pick t next (set next x.stream.0 more))
      go true = refl
      go false = set-map (reduce_ssn m) next x.stream.0 more

  pub sack-law : (r : Receiving) → acknowledged_receiving P (reduce n m r) ≡ record { sack = reduce_sack n (receiving_sack P r); receiving = reduce n m (receiving_told P r) }
  unfolding acknowledged_receiving receiving_sack receiving_told
  sack-law r =
      rw (count_map down is_held_free is_held_free r.held (all_of _ (λ x. refl) r.held), blocks-law n P r.keeping, told-law n P r.keeping)

  pub fresh-receiving-law : (t : Tsn) → 0 < n → 0 < t.0 → fresh_receiving (ring n) P (reduce_tsn n t) ≡ reduce n m (fresh_receiving line P t)
  unfolding fresh_receiving
  fresh-receiving-law t z l = rw (fresh-keeping-law n P t z l, replicate-kept down no_held down-none P.places, replicate-kept (reduce_ssn m) ssn0 ssn-none P.streams)

  -- ---- the operations

  module _ (r : Receiving) (near : Near h k r) where
    abbrev point : ℕ
    point = r.keeping.point.0

    chosen-law : chosen (rings n m) P (map down r.held) (map (reduce_ssn m) r.next) (point % n) ≡ moved point r.next (chosen lines P r.held r.next point)
    unfolding chosen
    chosen-law = fold_law point r.next r.held near none tt 0 r.held near

    ready-law : is_one (chosen (rings n m) P (map down r.held) (map (reduce_ssn m) r.next) (point % n)) ≡ is_one (chosen lines P r.held r.next point)
    ready-law = ap is_one chosen-law ∙ go (chosen lines P r.held r.next point)
      where
        go : (c : Choice) → is_one (moved point r.next c) ≡ is_one c
        go none = refl
        go (one l is) = refl

    low-law : low_of (ring n) (reduce n m r) ≡ low_of line r
    unfolding low_of is_low
    low-law = count_map down (is_low line r.keeping) _ r.held (all_map each r.held near)
      where
        each : (x : Held) → NearHeld h k point r.next x → is_low (ring n) (reduce_keeping n r.keeping) (down x) ≡ is_low line r.keeping x
        each x g = if-so false x.used (λ e. ap not (come-law h r.keeping x.tsn.0 (g.tsn e)))

    module _ (c : Held) (w : NearerThan h point c.tsn.0) where
      repeat-law : is_repeat (ring n) (reduce_keeping n r.keeping) (map down r.held) (c.tsn.0 % n) ≡ is_repeat line r.keeping r.held c.tsn.0
      unfolding is_repeat
      repeat-law =
          rw
          (come-law h r.keeping c.tsn.0 w, any-map down (holds c.tsn.0) (holds (c.tsn.0 % n)) r.held (all_map (λ x g. holds-law point r.next c.tsn.0 x (λ u. let v = g.tsn u in omega arith)) r.held near))

      judgement-law : judgement_of (ring n) P (reduce n m r) (c.tsn.0 % n) ≡ judgement_of line P r c.tsn.0
      unfolding judgement_of judged
      judgement-law = rw (low-law, far-law h point c.tsn.0 w)

      wedged-law : is_wedged (rings n m) P (low_of (ring n) (reduce n m r)) (map down r.held) (map (reduce_ssn m) r.next) (point % n)
          ≡ is_wedged lines P (low_of line r) r.held r.next point
      unfolding is_wedged
      wedged-law = rw (low-law, ready-law)

      clash-law : is_contradicted (ring n) (map down r.held) (down c) ≡ is_contradicted line r.held c
      clash-law = contradicted-law n m r.held c (all_map (λ x g u. let v = g.tsn u in omega arith) r.held near)

      pub verdict-law : (streams : ℕ) → verdict_of (rings n m) P (reduce n m r) (down c) streams ≡ verdict_of lines P r c streams
      unfolding verdict_of
      verdict-law streams = rw (judgement-law, repeat-law, wedged-law, clash-law)

      after-law : (v : Verdict) → receiving_after (ring n) P (reduce n m r) (down c) v ≡ reduce n m (receiving_after line P r c v)
      unfolding duplicate_noted stray_passed kept_at_place
      after-law Kept = rw (free_law r.held) (place (find_from is_held_free 0 r.held))
        where
          place : (f : Option ℕ) → kept_in (ring n) P (reduce n m r) (down c) f ≡ reduce n m (kept_in line P r c f)
          place (Some i) = rw (marked-law h r.keeping c.tsn.0 w P, set-map down r.held i c)
          place None = rw (marked-law h r.keeping c.tsn.0 w P)
      after-law Empty = refl
      after-law Long = refl
      after-law Opposite = refl
      after-law Duplicate = rw (listed-law n P r.keeping c.tsn)
      after-law Wedged = refl
      after-law Far = refl
      after-law Clashing = refl
      after-law Stray = rw (marked-law h r.keeping c.tsn.0 w P)

      -- a chunk arrives
      pub arrived-law : (streams : ℕ) → arrived (rings n m) P (reduce n m r) (down c) streams
          ≡ record { verdict = (arrived lines P r c streams).verdict; receiving = reduce n m (arrived lines P r c streams).receiving }
      unfolding arrived
      arrived-law streams = rw (verdict-law streams, after-law (verdict_of lines P r c streams))

      pub area-law : (streams : ℕ) (area bytes : List ℕ) → arrival_area (rings n m) P (reduce n m r) (down c) streams area bytes ≡ arrival_area lines P r c streams area bytes
      unfolding arrival_area
      area-law streams area bytes = rw (verdict-law streams) (go (verdict_of lines P r c streams))
        where
          go : (v : Verdict) → stored_by P (map down r.held) area bytes v ≡ stored_by P r.held area bytes v
          go Kept = rw (free_law r.held)
          go Empty = refl
          go Long = refl
          go Opposite = refl
          go Duplicate = refl
          go Wedged = refl
          go Far = refl
          go Stray = refl
          go Clashing = refl

    -- two takes that leave the circle's record and the line's
    abbrev Same : Took → Took → Type 0
    Same a b = taken_by (reduce n m r) a ≡ record { answer = reduce_taken m (taken_by r b).answer; receiving = reduce n m (taken_by r b).receiving }

    -- a take
    pub taken-law : (room : ℕ) → taken_into (rings n m) P (reduce n m r) room
        ≡ record { answer = reduce_taken m (taken_into lines P r room).answer; receiving = reduce n m (taken_into lines P r room).receiving }
    unfolding taken_into took
    taken-law room = rw chosen-law (go (chosen lines P r.held r.next point))
      where
        go : (c : Choice) → Same (took_by (ring m) (map down r.held) (map (reduce_ssn m) r.next) room (moved point r.next c)) (took_by line r.held r.next room c)
        go none = refl
        go (one l is) =
            rw (length-law r.held is, chunks-law r.held is, emptied-law r.held is, first-law (chunks_at r.held is), advanced-law r.next (first_held (chunks_at r.held is)))
            (fits (ltb room (length_of r.held is)))
          where
            fits : (t : Bool)
                → Same (pick t (record { answer = Short (length_of r.held is); held = map down r.held; next = map (reduce_ssn m) r.next }) (record { answer = Taken (message_of (length_of r.held is) (down (first_held (chunks_at r.held is)))); held = map down (emptied r.held is); next = map (reduce_ssn m) (advanced line r.next (first_held (chunks_at r.held is))) }))
                (pick t (record { answer = Short (length_of r.held is); held = r.held; next = r.next }) (record { answer = Taken (message_of (length_of r.held is) (first_held (chunks_at r.held is))); held = emptied r.held is; next = advanced line r.next (first_held (chunks_at r.held is)) }))
            fits true = refl
            fits false = refl

    pub written-law : (area out : List ℕ) → written (rings n m) P (map down r.held) (map (reduce_ssn m) r.next) (point % n) area out
        ≡ written lines P r.held r.next point area out
    unfolding written
    written-law area out = rw chosen-law (go (chosen lines P r.held r.next point))
      where
        go : (c : Choice) → written_by P (map down r.held) area out (moved point r.next c) ≡ written_by P r.held area out c
        go none = refl
        go (one l is) = rw (length-law r.held is, copied-law area r.held out 0 is)
