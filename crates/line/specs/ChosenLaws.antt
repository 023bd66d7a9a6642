-- What the line receiver's choice of a message is, where what it holds is a sender's: a whole message, the least that can be taken; and where
-- a held beginning has no whole message, a chunk of that message is not held. Assumes nothing.
use Prim.Native.Nat.{ℕ, zero, suc, ◌+◌, ◌<◌, ◌≤◌}
use Rattle.std.specs.Prelude.{◌≡◌, Bool, List, [], ◌∷◌, ◌⊎◌, length, set, get_or, eqb, ltb, Option, Some, None}
use Rattle.std.proofs.Math.Path.{refl}
use Rattle.std.proofs.Common.{sym, ap, ◌∙◌, subst, inl, add-zero, arith, get_or-set_other}
use Rattle.std.proofs.Math.Bool.{true, false}
use Rattle.std.specs.Bool.{beq}
use Rattle.std.proofs.Math.Logic.{inr}
use Rattle.std.proofs.Math.Numerals.{add-one}
use Rattle.std.proofs.Math.Decide.{dec_lt, ℕ_discrete}
use borrow.Author.Tests.{eq-eqb, ne_eqb, leb-true, leb-false, le-leb, lt-leb, lt-ltb, le-ltb, ltb-true}
use Rattle.std.proofs.Math.Dec.{leb}
use mir.Val.{bool_byte as bit}
use Rattle.scans.specs.Scan.{pick, find_from, fold_from}
use Rattle.scans.specs.Each.{All, all-at, clash, found-at}
use Rattle.numbers.specs.declared.circle.Ssn.{Ssn}
use Rattle.numbers.specs.Numbering.{line, lines, on, key, key-line}
use Rattle.numbers.specs.Profile.{Profile}
use Rattle.holding.specs.declared.held.Chunk.{Chunk}
use Rattle.holding.specs.declared.held.Held.{Held}
use Rattle.holding.specs.Held.{no_held, as_held, holds, holds-is, is_held}
use Rattle.holding.specs.Message.{Run, broken, whole, Choice, none, one, is_of_one, continues, led, onward, follow, opens, ranked, better_message, chunks_at}
use Rattle.holding.specs.MessageLaws.{continues-holds}
use Rattle.holding.specs.Taking.{emptied}
use Rattle.line.specs.Runs.{copies}
use Rattle.line.specs.CountLaws.{copies-cons, copies-nil, copies-set, copies_at, place-of, holds-none}
use Rattle.line.specs.Sender.{HonestSender}

-- ---- small things

no-choice : {A : Type 0} {i : List ℕ} → broken ≡ whole i → A
no-choice {A} {i} e = let z : ◌≡◌ {A = ℕ} 0 1 = cc in absurd (omega arith)

pub find_none : {A : Type 0} (p : A → Bool) (d : A) (xs : List A) (i j : ℕ) → find_from p i xs ≡ None → j < length xs → p (get_or xs j d) ≡ true → ⊥
find_none p d [] i j e l q = omega arith
find_none p d (x ∷ xs) i j e l q = go (p x) refl j l q (find_none p d xs (i + 1))
  where
    go : (t : Bool) → p x ≡ t → (j : ℕ) → j < suc (length xs) → p (get_or (x ∷ xs) j d) ≡ true
        → ((j : ℕ) → find_from p (i + 1) xs ≡ None → j < length xs → p (get_or xs j d) ≡ true → ⊥) → ⊥
    go true s j l q ih =
        let c : Some i ≡ None = rw s at e in
        let z : ◌≡◌ {A = ℕ} 0 1 = cc in
        omega arith
    go false s zero l q ih = clash (sym s ∙ q)
    go false s (suc j) l q ih = ih j (rw s at e) (omega arith) q

beq-refl : (b : Bool) → beq b b ≡ true
beq-refl true = refl
beq-refl false = refl

continues-so : (first : Held) (t : ℕ) (x : Held) → x.used ≡ true → x.tsn.0 ≡ t → x.begin ≡ false → x.stream.0 ≡ first.stream.0
    → x.unordered ≡ first.unordered → (x.unordered ≡ false → x.ssn.0 ≡ first.ssn.0) → continues first t x ≡ true
unfolding continues is_of_one
continues-so first t x u n b s k o =
    rw (holds-is t x u n, b, eq-eqb x.stream.0 first.stream.0 s, ← k, beq-refl x.unordered) (go x.unordered refl)
  where
    go : (v : Bool) → x.unordered ≡ v → pick v true (eqb x.ssn.0 first.ssn.0) ≡ true
    go true e = refl
    go false e = eq-eqb x.ssn.0 first.ssn.0 (o e)

-- the places is hold the chunks from number f on, of which the last and no other ends a message
abbrev pub Spanning : (ℕ → Chunk) → List Held → ℕ → List ℕ → Type 0
Spanning chunk hs f [] = ⊥
Spanning chunk hs f (i ∷ []) = (holds f (get_or hs i no_held) ≡ true) × ((chunk f).end ≡ true)
Spanning chunk hs f (i ∷ (j ∷ is)) = (holds f (get_or hs i no_held) ≡ true) × ((chunk f).end ≡ false) × Spanning chunk hs (suc f) (j ∷ is)

-- n is one of the k numbers from f on
unfoldable pub inside : ℕ → ℕ → ℕ → Bool
inside f k n = pick (leb f n) (ltb n (f + k)) false

pub inside-yes : (f k n : ℕ) → f ≤ n → n < f + k → inside f k n ≡ true
unfolding inside
inside-yes f k n l m = rw (le-leb f n l) (lt-ltb n (f + k) m)

pub inside_under : (f k n : ℕ) → n < f → inside f k n ≡ false
unfolding inside
inside_under f k n l = rw (lt-leb f n l)

pub inside-over : (f k n : ℕ) → f + k ≤ n → inside f k n ≡ false
unfolding inside
inside-over f k n l = rw (le-leb f n (omega arith)) (le-ltb n (f + k) l)

pub inside_is : (f k n : ℕ) → inside f k n ≡ true → (f ≤ n) × (n < f + k)
unfolding inside
inside_is f k n e = go (leb f n) refl
  where
    go : (t : Bool) → leb f n ≡ t → (f ≤ n) × (n < f + k)
    go true q = (leb-true f n q, ltb-true n (f + k) (rw q at e))
    go false q = clash (rw q at e)

inside-none : (f n : ℕ) → bit (inside f 0 n) ≡ 0
inside-none f n = go (dec_lt n f)
  where
    go : Dec (n < f) → bit (inside f 0 n) ≡ 0
    go (yes l) = rw (inside_under f 0 n l)
    go (no l) = rw (inside-over f 0 n (omega arith))

-- the first apart from the others
inside-suc : (f k n : ℕ) → bit (inside f (suc k) n) ≡ bit (eqb f n) + bit (inside (suc f) k n)
inside-suc f k n = go (dec_lt n f) (ℕ_discrete f n) (dec_lt n (f + suc k))
  where
    go : Dec (n < f) → Dec (f ≡ n) → Dec (n < f + suc k) → bit (inside f (suc k) n) ≡ bit (eqb f n) + bit (inside (suc f) k n)
    go (yes a) b c = rw (inside_under f (suc k) n a, ne_eqb f n (λ e. omega arith), inside_under (suc f) k n (omega arith))
    go (no a) (yes b) c = rw (inside-yes f (suc k) n (omega arith) (omega arith), eq-eqb f n b, inside_under (suc f) k n (omega arith))
    go (no a) (no b) (yes c) =
        let g : f < n = omega arith in
        rw (inside-yes f (suc k) n (omega arith) c, ne_eqb f n b, inside-yes (suc f) k n g (omega arith))
    go (no a) (no b) (no c) = rw (inside-over f (suc k) n (omega arith), ne_eqb f n b, inside-over (suc f) k n (omega arith))

pub holds-eqb : (f n : ℕ) (x : Held) → holds f x ≡ true → holds n x ≡ eqb f n
unfolding holds
holds-eqb f n x e = let w = is_held f x e in rw (w.0, w.1)

holds-within : (hs : List Held) (i n : ℕ) → holds n (get_or hs i no_held) ≡ true → i < length hs
holds-within [] i n e = clash (sym (holds-none n) ∙ e)
holds-within (x ∷ hs) zero n e = omega arith
holds-within (x ∷ hs) (suc i) n e = omega (arith, holds-within hs i n e)

-- emptying a place that holds a lower number leaves the rest
other : (hs : List Held) (g f i j : ℕ) → g < f → holds g (get_or hs i no_held) ≡ true → holds f (get_or hs j no_held) ≡ true
    → holds f (get_or (set hs i no_held) j no_held) ≡ true
other hs g f i j l a b = rw (get_or-set_other hs i j no_held no_held ne) b
  where
    ne : j ≡ i → ⊥
    ne e =
        let c : holds f (get_or hs i no_held) ≡ true = rw e at b in
        omega (arith, (is_held g (get_or hs i no_held) a).1, (is_held f (get_or hs i no_held) c).1)

spanning-set : (chunk : ℕ → Chunk) (hs : List Held) (g f i : ℕ) (is : List ℕ) → g < f → holds g (get_or hs i no_held) ≡ true
    → Spanning chunk hs f is → Spanning chunk (set hs i no_held) f is
spanning-set chunk hs g f i [] l a s = s
spanning-set chunk hs g f i (j ∷ []) l a s = (other hs g f i j l a s.0, s.1)
spanning-set chunk hs g f i (j ∷ (k ∷ is)) l a s =
    (other hs g f i j l a s.0, s.1, spanning-set chunk hs g (suc f) i (k ∷ is) (omega arith) a s.2)

-- each number of the message was held once more than it is after the take
copies-one : (hs : List Held) (f i n : ℕ) → holds f (get_or hs i no_held) ≡ true → copies (set hs i no_held) n + bit (eqb f n) ≡ copies hs n
copies-one hs f i n e =
    let q : copies (set hs i no_held) n + bit (eqb f n) ≡ copies hs n + bit (holds n no_held)
    = rw (← (holds-eqb f n (get_or hs i no_held) e)) (copies-set hs i no_held n (holds-within hs i f e)) in
    let z : bit (holds n no_held) ≡ 0 = rw (holds-none n) in
    omega arith

pub copies-emptied : (chunk : ℕ → Chunk) (hs : List Held) (f : ℕ) (is : List ℕ) (n : ℕ) → Spanning chunk hs f is
    → copies (emptied hs is) n + bit (inside f (length is) n) ≡ copies hs n
copies-emptied chunk hs f [] n s = absurd s
copies-emptied chunk hs f (i ∷ []) n s =
    let z : bit (inside (suc f) 0 n) ≡ 0 = inside-none (suc f) n in
    omega (arith, inside-suc f 0 n, copies-one hs f i n s.0)
copies-emptied chunk hs f (i ∷ (j ∷ is)) n s =
    omega
    (arith, inside-suc f (suc (length is)) n, copies-one hs f i n s.0, copies-emptied chunk (set hs i no_held) (suc f) (j ∷ is) n (spanning-set chunk hs f (suc f) i (j ∷ is) (omega arith) s.0 s.2))

-- and is given once
pub copies-chunks : (chunk : ℕ → Chunk) (hs : List Held) (f : ℕ) (is : List ℕ) (n : ℕ) → Spanning chunk hs f is
    → copies (chunks_at hs is) n ≡ bit (inside f (length is) n)
copies-chunks chunk hs f [] n s = absurd s
copies-chunks chunk hs f (i ∷ []) n s =
    omega
    (arith, copies-cons (get_or hs i no_held) [] n, copies-nil n, ap bit (holds-eqb f n (get_or hs i no_held) s.0), inside-suc f 0 n, inside-none (suc f) n)
copies-chunks chunk hs f (i ∷ (j ∷ is)) n s =
    omega
    (arith, copies-cons (get_or hs i no_held) (chunks_at hs (j ∷ is)) n, ap bit (holds-eqb f n (get_or hs i no_held) s.0), inside-suc f (suc (length is)) n, copies-chunks chunk hs (suc f) (j ∷ is) n s.2)

-- what is known of each number of a message
pub spanning-at : (chunk : ℕ → Chunk) (hs : List Held) (f : ℕ) (is : List ℕ) (n : ℕ) → Spanning chunk hs f is → f ≤ n → n < f + length is
    → (1 ≤ copies hs n) × ((chunk n).end ≡ eqb (suc n) (f + length is))
spanning-at chunk hs f [] n s l m = absurd s
spanning-at chunk hs f (i ∷ []) n s l m =
    let e : f ≡ n = omega arith in
    rw (← e) (copies_at hs i f s.0, s.1 ∙ sym (eq-eqb (suc f) (f + 1) (omega arith)))
spanning-at chunk hs f (i ∷ (j ∷ is)) n s l m = go (ℕ_discrete f n) (spanning-at chunk hs (suc f) (j ∷ is) n s.2)
  where
    go : Dec (f ≡ n) → (suc f ≤ n → n < suc f + suc (length is) → (1 ≤ copies hs n) × ((chunk n).end ≡ eqb (suc n) (suc f + suc (length is))))
        → (1 ≤ copies hs n) × ((chunk n).end ≡ eqb (suc n) (f + suc (suc (length is))))
    go (yes e) ih = rw (← e) (copies_at hs i f s.0, s.1 ∙ sym (ne_eqb (suc f) (f + suc (suc (length is))) (λ q. omega arith)))
    go (no e) ih =
        let q : f + suc (suc (length is)) ≡ suc f + suc (length is) = omega arith in
        rw q (ih (omega arith) (omega arith))

pub spanning-some : (chunk : ℕ → Chunk) (hs : List Held) (f : ℕ) (is : List ℕ) → Spanning chunk hs f is → 0 < length is
spanning-some chunk hs f [] s = absurd s
spanning-some chunk hs f (i ∷ []) s = omega arith
spanning-some chunk hs f (i ∷ (j ∷ is)) s = omega arith

-- a whole message that can be taken begins at place i
abbrev pub MessageReady : Profile → List Held → List Ssn → ℕ → List ℕ → Type 0
MessageReady P hs next i is = (opens line P next (get_or hs i no_held) ≡ true) × (follow line hs (get_or hs i no_held) P.places i (get_or hs i no_held) ≡ whole is)

-- what is chosen is such a message
abbrev pub MessageChosen : Profile → List Held → List Ssn → Choice → Type 0
MessageChosen P hs next none = Unit
MessageChosen P hs next (one l is) = (i : ℕ) × (l ≡ (get_or hs i no_held).tsn.0) × MessageReady P hs next i is

-- something is chosen, and it is not behind t
abbrev pub AtMost : ℕ → Choice → Type 0
AtMost t none = ⊥
AtMost t (one l is) = l ≤ t

-- what is held here is the sender's
abbrev pub Real : ℕ → (ℕ → Chunk) → (ℕ → ℕ) → Held → Type 0
Real base chunk size x = x.used ≡ true → (base ≤ x.tsn.0) × (x ≡ as_held (chunk x.tsn.0) (size x.tsn.0))

-- ---- what is held is the sender's

module _ (P : Profile) (base streams : ℕ) (chunk : ℕ → Chunk) (size : ℕ → ℕ) (send : HonestSender P base streams chunk) where
  module _ (hs : List Held) (real : All (Real base chunk size) hs) where
    abbrev pub at : ℕ → Held
    at i = get_or hs i no_held

    pub real-at : (i n : ℕ) → holds n (at i) ≡ true → (base ≤ n) × (at i ≡ as_held (chunk n) (size n))
    real-at i n e =
        let w = is_held n (at i) e in
        let r = all-at (Real base chunk size) hs i no_held (λ q. clash q) real w.0 in
        (omega (arith, w.1), r.1 ∙ ap (λ (m : ℕ). as_held (chunk m) (size m)) w.1)

    abbrev pub Spans : ℕ → List ℕ → Type 0
    Spans = Spanning chunk hs

    module _ (first : Held) where
      on_one : (n : ℕ) → on line n 1 ≡ suc n
      unfolding on
      on_one n = add-one n

      next-is : (f i j : ℕ) → holds f (at i) ≡ true → find_from (continues first (on line (at i).tsn.0 1)) 0 hs ≡ Some j → holds (suc f) (at j) ≡ true
      next-is f i j e q =
          let t : on line (at i).tsn.0 1 ≡ suc f = on_one (at i).tsn.0 ∙ ap suc (is_held f (at i) e).1 in
          rw t at (continues-holds first _ (at j) (found-at _ no_held hs j q))

      -- a whole message
      pub follow-whole : (more f i : ℕ) (is : List ℕ) → holds f (at i) ≡ true → follow line hs first more i (at i) ≡ whole is
          → (js : List ℕ) × (is ≡ i ∷ js) × Spans f (i ∷ js)
      unfolding follow
      follow-whole zero f i is e q = no-choice q
      follow-whole (suc more) f i is e q = go (at i).end refl (λ j is. follow-whole more (suc f) j is)
        where
          w : at i ≡ as_held (chunk f) (size f)
          w = (real-at i f e).1

          rest : (t : Option ℕ) → find_from (continues first (on line (at i).tsn.0 1)) 0 hs ≡ t
              → led i (onward (λ (j : ℕ). follow line hs first more j (at j)) t) ≡ whole is
              → (chunk f).end ≡ false
              → ((j : ℕ) (is : List ℕ) → holds (suc f) (at j) ≡ true → follow line hs first more j (at j) ≡ whole is → (js : List ℕ) × (is ≡ j ∷ js) × Spans (suc f) (j ∷ js))
              → (js : List ℕ) × (is ≡ i ∷ js) × Spans f (i ∷ js)
          rest None a b n ih = no-choice b
          rest (Some j) a b n ih = tail (follow line hs first more j (at j)) refl b
            where
              tail : (r : Run) → follow line hs first more j (at j) ≡ r → led i r ≡ whole is → (js : List ℕ) × (is ≡ i ∷ js) × Spans f (i ∷ js)
              tail broken c d = no-choice d
              tail (whole ks) c d =
                  let v = ih j ks (next-is f i j e a) c in
                  let k : ks ≡ j ∷ v.0 = v.1 in
                  let s : is ≡ i ∷ (j ∷ v.0) = cc in
                  (j ∷ v.0, s, (e, n, v.2))

          go : (t : Bool) → (at i).end ≡ t
              → ((j : ℕ) (is : List ℕ) → holds (suc f) (at j) ≡ true → follow line hs first more j (at j) ≡ whole is → (js : List ℕ) × (is ≡ j ∷ js) × Spans (suc f) (j ∷ js))
              → (js : List ℕ) × (is ≡ i ∷ js) × Spans f (i ∷ js)
          go true t ih =
              let s : whole (i ∷ []) ≡ whole is = rw t at q in
              let p : is ≡ i ∷ [] = cc in
              ([], p, (e, sym (ap (λ (x : Held). x.end) w) ∙ t))
          go false t ih =
              rest (find_from (continues first (on line (at i).tsn.0 1)) 0 hs) refl (rw t at q) (sym (ap (λ (x : Held). x.end) w) ∙ t) ih

      -- no whole message: its chunks from f to z, and z is not held, or so many are
      pub record Lacks (f more : ℕ) : Type 0 where
        pub z : ℕ
        pub from : f ≤ z
        pub part : (j : ℕ) → f ≤ j → j < z → ((chunk j).end ≡ false) × (1 ≤ copies hs j)
        pub lack : (copies hs z ≡ 0) ⊎ (z ≡ f + more)

      -- first begins the message that the chunk of f belongs to
      pub record Of (f : ℕ) : Type 0 where
        pub same-stream : first.stream.0 ≡ (chunk f).stream.0
        pub kind : first.unordered ≡ (chunk f).unordered
        pub ssn : (chunk f).unordered ≡ false → first.ssn.0 ≡ (chunk f).ssn.0

      of-suc : (f : ℕ) → base ≤ f → (chunk f).end ≡ false → Of f → Of (suc f)
      of-suc f l e o = record {
        same-stream = o.same-stream ∙ sym (send.one-stream f l e);
        kind = o.kind ∙ sym (send.one-kind f l e);
        ssn = λ u. let v : (chunk f).unordered ≡ false = sym (send.one-kind f l e) ∙ u in o.ssn v ∙ sym (send.one-ssn f l e v);
      }

      -- the next chunk, if it is held, is found
      not-held : (f : ℕ) → base ≤ f → (chunk f).end ≡ false → Of f → (t : ℕ) → t ≡ suc f → find_from (continues first t) 0 hs ≡ None → copies hs (suc f) ≡ 0
      not-held f l e o t te q = go (dec_lt 0 (copies hs (suc f)))
        where
          o' : Of (suc f)
          o' = of-suc f l e o

          go : Dec (0 < copies hs (suc f)) → copies hs (suc f) ≡ 0
          go (no n) = omega arith
          go (yes n) =
              let p = place-of hs (suc f) n in
              let h = is_held (suc f) (at p.0) p.2 in
              let r : at p.0 ≡ as_held (chunk (suc f)) (size (suc f)) = (real-at p.0 (suc f) p.2).1 in
              absurd
              (find_none (continues first t) no_held hs 0 p.0 q p.1
              (continues-so first t (at p.0) h.0 (h.1 ∙ sym te) (ap (λ (x : Held). x.begin) r ∙ (send.parts f l ∙ e))
              (ap (λ (x : Held). x.stream.0) r ∙ sym o'.same-stream) (ap (λ (x : Held). x.unordered) r ∙ sym o'.kind)
              (λ u. ap (λ (x : Held). x.ssn.0) r ∙ sym (o'.ssn (sym (ap (λ (x : Held). x.unordered) r) ∙ u)))))

      pub follow-broken : (more f i : ℕ) → holds f (at i) ≡ true → Of f → follow line hs first more i (at i) ≡ broken → Lacks f more
      unfolding follow
      follow-broken zero f i e o q = record { z = f; from = omega arith; part = λ j l m. absurd (omega arith); lack = inr (sym (add-zero f)) }
      follow-broken (suc more) f i e o q = go (at i).end refl (λ j. follow-broken more (suc f) j)
        where
          IH : Type 0
          IH = (j : ℕ) → holds (suc f) (at j) ≡ true → Of (suc f) → follow line hs first more j (at j) ≡ broken → Lacks (suc f) more

          w : (base ≤ f) × (at i ≡ as_held (chunk f) (size f))
          w = real-at i f e

          one : (n : (chunk f).end ≡ false) (j : ℕ) → j ≡ f → ((chunk j).end ≡ false) × (1 ≤ copies hs j)
          one n j s = rw s (n, copies_at hs i f e)

          more_of : (chunk f).end ≡ false → Lacks (suc f) more → Lacks f (suc more)
          more_of n k = record { z = k.z; from = omega (arith, k.from); part = sooner; lack = later k.lack }
            where
              sooner : (j : ℕ) → f ≤ j → j < k.z → ((chunk j).end ≡ false) × (1 ≤ copies hs j)
              sooner j l m = pickj (ℕ_discrete j f)
                where
                  pickj : Dec (j ≡ f) → ((chunk j).end ≡ false) × (1 ≤ copies hs j)
                  pickj (yes s) = one n j s
                  pickj (no s) = k.part j (omega arith) m

              later : (copies hs k.z ≡ 0) ⊎ (k.z ≡ suc f + more) → (copies hs k.z ≡ 0) ⊎ (k.z ≡ f + suc more)
              later (inl a) = inl a
              later (inr a) = inr (omega arith)

          rest : (chunk f).end ≡ false → IH → (t : Option ℕ) → find_from (continues first (on line (at i).tsn.0 1)) 0 hs ≡ t
              → led i (onward (λ (j : ℕ). follow line hs first more j (at j)) t) ≡ broken → Lacks f (suc more)
          rest n ih None a b = record {
            z = suc f;
            from = omega arith;
            part = λ j l m. one n j (omega arith);
            lack = inl (not-held f w.0 n o _ (on_one (at i).tsn.0 ∙ ap suc (is_held f (at i) e).1) a);
          }
          rest n ih (Some j) a b = tail (follow line hs first more j (at j)) refl b
            where
              tail : (r : Run) → follow line hs first more j (at j) ≡ r → led i r ≡ broken → Lacks f (suc more)
              tail broken c d = more_of n (ih j (next-is f i j e a) (of-suc f w.0 n o) c)
              tail (whole ks) c d = no-choice (sym d)

          go : (t : Bool) → (at i).end ≡ t → IH → Lacks f (suc more)
          go true t ih = let s : whole (i ∷ []) ≡ broken = rw t at q in no-choice (sym s)
          go false t ih = rest (sym (ap (λ (x : Held). x.end) w.1) ∙ t) ih _ refl (rw t at q)

    -- ---- the choice

    module _ (next : List Ssn) (p : ℕ) where
      abbrev Whole : ℕ → List ℕ → Type 0
      Whole = MessageReady P hs next

      abbrev Won : Choice → Type 0
      Won = MessageChosen P hs next

      better-won : (c : Choice) (i : ℕ) → Won c → Won (better_message lines P hs next p c i (at i))
      unfolding better_message
      better-won c i v = go (opens line P next (at i)) refl (follow line hs (at i) P.places i (at i)) refl
        where
          go : (t : Bool) → opens line P next (at i) ≡ t → (r : Run) → follow line hs (at i) P.places i (at i) ≡ r
              → Won (pick t (ranked c (key line p (at i).tsn.0) r) c)
          go false e r f = v
          go true e broken f = v
          go true e (whole is) f = rank c v
            where
              rank : (c : Choice) → Won c → Won (ranked c (key line p (at i).tsn.0) (whole is))
              rank none v = (i, key-line p (at i).tsn.0, (e, f))
              rank (one l js) v = least (leb l (key line p (at i).tsn.0))
                where
                  least : (t : Bool) → Won (pick t (one l js) (one (key line p (at i).tsn.0) is))
                  least true = v
                  least false = (i, key-line p (at i).tsn.0, (e, f))

      better-keeps : (t : ℕ) (c : Choice) (i : ℕ) (x : Held) → AtMost t c → AtMost t (better_message lines P hs next p c i x)
      unfolding better_message
      better-keeps t none i x v = absurd v
      better-keeps t (one l js) i x v = go (opens line P next x) (follow line hs x P.places i x)
        where
          go : (b : Bool) (r : Run) → AtMost t (pick b (ranked (one l js) (key line p x.tsn.0) r) (one l js))
          go false r = v
          go true broken = v
          go true (whole is) = least (leb l (key line p x.tsn.0)) refl
            where
              least : (b : Bool) → leb l (key line p x.tsn.0) ≡ b → AtMost t (pick b (one l js) (one (key line p x.tsn.0) is))
              least true e = v
              least false e = omega (arith, leb-false l (key line p x.tsn.0) e)

      better-least : (c : Choice) (i : ℕ) (is : List ℕ) → Whole i is → AtMost (at i).tsn.0 (better_message lines P hs next p c i (at i))
      unfolding better_message
      better-least c i is w = rw (w.0, w.1) (rank c)
        where
          rank : (c : Choice) → AtMost (at i).tsn.0 (ranked c (key line p (at i).tsn.0) (whole is))
          rank none = omega (arith, key-line p (at i).tsn.0)
          rank (one l js) = least (leb l (key line p (at i).tsn.0)) refl
            where
              least : (b : Bool) → leb l (key line p (at i).tsn.0) ≡ b → AtMost (at i).tsn.0 (pick b (one l js) (one (key line p (at i).tsn.0) is))
              least true e = omega (arith, key-line p (at i).tsn.0, leb-true l (key line p (at i).tsn.0) e)
              least false e = omega (arith, key-line p (at i).tsn.0)

      abbrev Here : ℕ → List Held → Type 0
      Here i xs = (j : ℕ) → get_or xs j no_held ≡ at (i + j)

      here-suc : (i : ℕ) (x : Held) (xs : List Held) → Here i (x ∷ xs) → Here (i + 1) xs
      here-suc i x xs a j = let e : i + suc j ≡ i + 1 + j = omega arith in rw e at (a (suc j))

      here-zero : (i : ℕ) (x : Held) (xs : List Held) → Here i (x ∷ xs) → x ≡ at i
      here-zero i x xs a = rw (add-zero i) at (a 0)

      fold-won : (c : Choice) (i : ℕ) (xs : List Held) → Here i xs → Won c → Won (fold_from (better_message lines P hs next p) c i xs)
      fold-won c i [] a v = v
      fold-won c i (x ∷ xs) a v =
          fold-won (better_message lines P hs next p c i x) (i + 1) xs (here-suc i x xs a)
          (subst (λ (y : Held). Won (better_message lines P hs next p c i y)) (sym (here-zero i x xs a)) (better-won c i v))

      fold-keeps : (t : ℕ) (c : Choice) (i : ℕ) (xs : List Held) → AtMost t c → AtMost t (fold_from (better_message lines P hs next p) c i xs)
      fold-keeps t c i [] v = v
      fold-keeps t c i (x ∷ xs) v = fold-keeps t (better_message lines P hs next p c i x) (i + 1) xs (better-keeps t c i x v)

      fold-least : (c : Choice) (i : ℕ) (xs : List Held) → Here i xs → (j : ℕ) (is : List ℕ) → i ≤ j → j < i + length xs → Whole j is
          → AtMost (at j).tsn.0 (fold_from (better_message lines P hs next p) c i xs)
      fold-least c i [] a j is l m w = absurd (omega arith)
      fold-least c i (x ∷ xs) a j is l m w =
          go (ℕ_discrete i j) (fold-least (better_message lines P hs next p c i x) (i + 1) xs (here-suc i x xs a) j is)
        where
          go : Dec (i ≡ j)
              → (i + 1 ≤ j → j < i + 1 + length xs → Whole j is → AtMost (at j).tsn.0 (fold_from (better_message lines P hs next p) (better_message lines P hs next p c i x) (i + 1) xs))
              → AtMost (at j).tsn.0 (fold_from (better_message lines P hs next p) (better_message lines P hs next p c i x) (i + 1) xs)
          go (no n) ih = ih (omega arith) (omega arith) w
          go (yes e) ih = fold-keeps (at j).tsn.0 (better_message lines P hs next p c i x) (i + 1) xs (rw (here-zero i x xs a, e) (better-least c j is w))

      pub chosen-won : Won (fold_from (better_message lines P hs next p) none 0 hs)
      chosen-won = fold-won none 0 hs (λ j. let e : 0 + j ≡ j = omega arith in rw e) tt

      pub chosen-least : (j : ℕ) (is : List ℕ) → j < length hs → Whole j is → AtMost (at j).tsn.0 (fold_from (better_message lines P hs next p) none 0 hs)
      chosen-least j is l w = fold-least none 0 hs (λ j. let e : 0 + j ≡ j = omega arith in rw e) j is (omega arith) (omega arith) w
