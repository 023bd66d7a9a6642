-- Laws of a table of held chunks: how many places it has, the place that stands at i, its bounds, and the places after one is put. Assumes nothing.
use Rattle.std.specs.Prelude.{ℕ, zero, suc, ◌+◌, ◌*◌, ◌/◌, ◌%◌, ◌<◌, ◌≤◌, ◌≡◌, refl, Bool, true, false, List, [], ◌∷◌, length, set, get_or, eqb, ltb}
use Rattle.std.proofs.Common.{sym, ap, ◌∙◌, arith, lt-ltb, le-ltb}
use Rattle.std.proofs.Math.Decide.{dec_lt}
use Rattle.std.proofs.Math.ListN.{get_or-eq_default}
use Rattle.std.proofs.Math.Seq.{set_out}
use mir.Val.{bool_byte as bit}
use Rattle.scans.specs.Scan.{bit_le, pick}
use Rattle.scans.specs.Each.{All}
use Rattle.numbers.specs.Profile.{Profile}
use Rattle.octets.specs.Bytes.{laid}
use Rattle.octets.specs.BytesLaws.{laid_one, length-laid}
use Rattle.holding.specs.declared.held.Held.{Held}
use Rattle.holding.specs.Held.{no_held}
use Rattle.tables.specs.WordsLaws.{laid-step, laid-below, laid-above, laid_in, less-or-more, low_bit, shown_from, shown-long, shown-at, shown-touched}
use Rattle.tables.specs.HeldWords.{last_word, held_words, held_decoded, held_at, held_of, held_put}

-- as many places as the profile has, whatever the words
pub held-long : (P : Profile) (ws : List ℕ) → length (held_of P ws) ≡ P.places
unfolding held_of
held-long P ws = shown-long held_at 0 P.places ws

-- the place i, from its words
pub held_in : (P : Profile) (ws : List ℕ) (i : ℕ) → i < P.places → held_at ws i ≡ get_or (held_of P ws) i no_held
unfolding held_of
held_in P ws i h = shown-at held_at no_held P.places ws i h

-- past the last place there is none
pub held-past : (P : Profile) (ws : List ℕ) (i : ℕ) → P.places ≤ i → no_held ≡ get_or (held_of P ws) i no_held
held-past P ws i h = let l : length (held_of P ws) ≤ i = omega (arith, held-long P ws) in sym (get_or-eq_default (held_of P ws) no_held l)

-- words that are numbers of 32 bits need no remainder
pub held-decoded-by : (tsn number ppid last : ℕ) → tsn < 4294967296 → ppid < 4294967296 → last < 4294967296
    → record { used = eqb (last % 2) 1; begin = eqb (last / 2 % 2) 1; end = eqb (last / 4 % 2) 1; unordered = eqb (last / 8 % 2) 1; tsn = record { 0 = tsn }; stream = record { 0 = last / 65536 }; ssn = record { 0 = number % 65536 }; ppid = ppid; len = last / 16 % 4096 } ≡ held_decoded tsn number ppid last
unfolding held_decoded
held-decoded-by tsn number ppid last a c d =
    let p : tsn % 4294967296 ≡ tsn = omega arith in
    let q : ppid % 4294967296 ≡ ppid = omega arith in
    let w : last / 65536 < 65536 = omega arith in
    let r : last / 65536 % 65536 ≡ last / 65536 = omega (arith, w) in
    rw (p, q, r)

-- ---- a place within the bounds of its words

pub record HeldSmall (h : Held) : Type 0 where
  pub tsn : h.tsn.0 < 4294967296
  pub stream : h.stream.0 < 65536
  pub ssn : h.ssn.0 < 65536
  pub ppid : h.ppid < 4294967296
  pub len : h.len < 4096

pub none-small : HeldSmall no_held
none-small = record { tsn = omega arith; stream = omega arith; ssn = omega arith; ppid = omega arith; len = omega arith }

-- every place that words show is
decoded-small : (a b c d : ℕ) → HeldSmall (held_decoded a b c d)
unfolding held_decoded
decoded-small a b c d = record { tsn = omega arith; stream = omega arith; ssn = omega arith; ppid = omega arith; len = omega arith }

pub held_small : (P : Profile) (ws : List ℕ) (i : ℕ) → HeldSmall (get_or (held_of P ws) i no_held)
held_small P ws i = go (dec_lt i P.places)
  where
    go : Dec (i < P.places) → HeldSmall (get_or (held_of P ws) i no_held)
    go (yes h) = rw (← held_in P ws i h) (decoded-small (get_or ws (4 * i) 0) (get_or ws (4 * i + 1) 0) (get_or ws (4 * i + 2) 0) (get_or ws (4 * i + 3) 0))
    go (no h) = rw (← held-past P ws i (omega arith)) none-small

small-from : (ws : List ℕ) (i n : ℕ) → All HeldSmall (shown_from held_at i n ws)
small-from ws i zero = tt
small-from ws i (suc n) = (decoded-small (get_or ws (4 * i) 0) (get_or ws (4 * i + 1) 0) (get_or ws (4 * i + 2) 0) (get_or ws (4 * i + 3) 0), small-from ws (i + 1) n)

pub all_small : (P : Profile) (ws : List ℕ) → All HeldSmall (held_of P ws)
unfolding held_of
all_small P ws = small-from ws 0 P.places

-- such a place shows what it was put as
pub decoded-words : (h : Held) → HeldSmall h → held_decoded h.tsn.0 h.ssn.0 h.ppid (last_word h) ≡ h
unfolding held_decoded
decoded-words h s =
    let u = bit_le h.used in
    let b = bit_le h.begin in
    let e = bit_le h.end in
    let o = bit_le h.unordered in
    let q0 : h.len % 4096 ≡ h.len = omega (arith, s.len) in
    let q1 : h.tsn.0 % 4294967296 ≡ h.tsn.0 = omega (arith, s.tsn) in
    let q2 : h.ssn.0 % 65536 ≡ h.ssn.0 = omega (arith, s.ssn) in
    let q3 : h.ppid % 4294967296 ≡ h.ppid = omega (arith, s.ppid) in
    let t4 : last_word h / 65536 ≡ h.stream.0 = omega (arith, u, b, e, o) in
    let u4 : h.stream.0 % 65536 ≡ h.stream.0 = omega (arith, s.stream) in
    let q4 : last_word h / 65536 % 65536 ≡ h.stream.0 = ap (λ (n : ℕ). n % 65536) t4 ∙ u4 in
    let t5 : last_word h / 16 ≡ h.stream.0 * 4096 + h.len % 4096 = omega (arith, u, b, e, o) in
    let u5 : (h.stream.0 * 4096 + h.len % 4096) % 4096 ≡ h.len = omega (arith, q0, s.len) in
    let q5 : last_word h / 16 % 4096 ≡ h.len = ap (λ (n : ℕ). n % 4096) t5 ∙ u5 in
    let q6 = low_bit h.used (last_word h) (h.stream.0 * 32768 + h.len % 4096 * 8 + bit h.begin + bit h.end * 2 + bit h.unordered * 4) (omega arith) in
    let q7 = low_bit h.begin (last_word h / 2) (h.stream.0 * 16384 + h.len % 4096 * 4 + bit h.end + bit h.unordered * 2) (omega (arith, u)) in
    let q8 = low_bit h.end (last_word h / 4) (h.stream.0 * 8192 + h.len % 4096 * 2 + bit h.unordered) (omega (arith, u, b)) in
    let q9 = low_bit h.unordered (last_word h / 8) (h.stream.0 * 4096 + h.len % 4096) (omega (arith, u, b, e)) in
    rw (q1, q2, q3, q4, q5, q6, q7, q8, q9)

-- ---- a place that is put

-- four stores, one behind the other
pub four-stores : (ws : List ℕ) (at a b c d : ℕ) → set (set (set (set ws at a) (at + 1) b) (at + 2) c) (at + 3) d ≡ laid ws at (a ∷ b ∷ c ∷ d ∷ [])
four-stores ws at a b c d =
    let e2 : (at + 1) + 1 ≡ at + 2 = omega arith in
    let e3 : (at + 2) + 1 ≡ at + 3 = omega arith in
    rw (laid-step a (b ∷ c ∷ d ∷ []) ws at, laid-step b (c ∷ d ∷ []) (set ws at a) (at + 1), e2, laid-step c (d ∷ []) (set (set ws at a) (at + 1) b) (at + 2), e3, laid_one (set (set (set ws at a) (at + 1) b) (at + 2) c) (at + 3) d)

put-far : (ws : List ℕ) (j : ℕ) (h : Held) (i k : ℕ) → k < 4 → (i ≡ j → ⊥) → get_or (laid ws (4 * j) (held_words h)) (4 * i + k) 0 ≡ get_or ws (4 * i + k) 0
put-far ws j h i k l n =
    less-or-more i j n
    (λ q. laid-below (held_words h) ws (4 * j) (4 * i + k) (omega arith))
    (λ q. laid-above (held_words h) ws (4 * j) (4 * i + k) (omega arith))

put_other : (ws : List ℕ) (j : ℕ) (h : Held) (i : ℕ) → (i ≡ j → ⊥) → held_at (laid ws (4 * j) (held_words h)) i ≡ held_at ws i
put_other ws j h i n =
    let z : 4 * i ≡ 4 * i + 0 = omega arith in
    let q : get_or (laid ws (4 * j) (held_words h)) (4 * i) 0 ≡ get_or ws (4 * i) 0
    = ap (λ (m : ℕ). get_or (laid ws (4 * j) (held_words h)) m 0) z ∙ (put-far ws j h i 0 (omega arith) n ∙ sym (ap (λ (m : ℕ). get_or ws m 0) z)) in
    rw (q, put-far ws j h i 1 (omega arith) n, put-far ws j h i 2 (omega arith) n, put-far ws j h i 3 (omega arith) n)

put-here : (ws : List ℕ) (j : ℕ) (h : Held) → 4 * j + 4 ≤ length ws → HeldSmall h → held_at (laid ws (4 * j) (held_words h)) j ≡ h
put-here ws j h l s =
    rw
    (laid_in (held_words h) ws (4 * j) 0 (4 * j) (omega arith) (omega arith) (omega arith), laid_in (held_words h) ws (4 * j) 1 (4 * j + 1) (omega arith) (omega arith) refl, laid_in (held_words h) ws (4 * j) 2 (4 * j + 2) (omega arith) (omega arith) refl, laid_in (held_words h) ws (4 * j) 3 (4 * j + 3) (omega arith) (omega arith) refl)
    (decoded-words h s)

-- what is put within the places is laid there; elsewhere nothing
pub held-put-within : (P : Profile) (ws : List ℕ) (i : ℕ) (h : Held) → i < P.places → laid ws (4 * i) (held_words h) ≡ held_put P ws i h
unfolding held_put
held-put-within P ws i h l = rw (lt-ltb i P.places l)

pub held-put-past : (P : Profile) (ws : List ℕ) (i : ℕ) (h : Held) → P.places ≤ i → ws ≡ held_put P ws i h
unfolding held_put
held-put-past P ws i h l = rw (le-ltb i P.places l)

-- the places after one is put: that one, and all others as they were
pub held-put : (P : Profile) (ws : List ℕ) (i : ℕ) (h : Held) → 4 * P.places ≤ length ws → HeldSmall h → held_of P (held_put P ws i h) ≡ set (held_of P ws) i h
unfolding held_of
held-put P ws i h l s = go (dec_lt i P.places)
  where
    go : Dec (i < P.places) → held_of P (held_put P ws i h) ≡ set (held_of P ws) i h
    go (yes k) =
        ap (held_of P) (sym (held-put-within P ws i h k))
        ∙ shown-touched held_at i (λ m n. put_other ws i h m n) (put-here ws i h (omega arith) s) P.places k
    go (no k) =
        let m : length (held_of P ws) ≤ i = omega (arith, held-long P ws) in
        ap (held_of P) (sym (held-put-past P ws i h (omega arith))) ∙ sym (set_out (held_of P ws) i h m)

-- the words stay as many
pub held-put-long : (P : Profile) (ws : List ℕ) (i : ℕ) (h : Held) → length (held_put P ws i h) ≡ length ws
unfolding held_put
held-put-long P ws i h = go (ltb i P.places)
  where
    go : (t : Bool) → length (pick t (laid ws (4 * i) (held_words h)) ws) ≡ length ws
    go true = length-laid ws (4 * i) (held_words h)
    go false = refl
