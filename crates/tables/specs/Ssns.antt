-- A table of the next SSNs of the streams, one of 16 bits each. Every list of words shows one list of SSNs, each within the bounds of its type.
-- Assumes nothing.
use Rattle.std.specs.Prelude.{ℕ, ◌%◌, ◌<◌, ◌≤◌, ◌≡◌, refl, Bool, true, false, List, length, set, get_or, ltb}
use Rattle.std.proofs.Common.{sym, ap, ◌∙◌, arith, lt-ltb, le-ltb, length-set, get_or-set_same, get_or-set_other}
use Rattle.std.proofs.Math.Decide.{dec_lt}
use Rattle.std.proofs.Math.ListN.{get_or-eq_default}
use Rattle.std.proofs.Math.Seq.{set_out}
use Rattle.numbers.specs.declared.circle.Ssn.{Ssn}
use Rattle.numbers.specs.Circle.{ssn0}
use Rattle.numbers.specs.Profile.{Profile}
use Rattle.scans.specs.Scan.{pick}
use Rattle.tables.specs.WordsLaws.{shown_from, shown-long, shown-at, shown-touched}

-- the SSN of the stream i; a word past the end counts as 0
abbrev pub ssn_at : List ℕ → ℕ → Ssn
ssn_at ns i = record { 0 = get_or ns i 0 % 65536 }

-- the SSNs of a table, as many as a profile has streams
unfoldable pub ssns_of : Profile → List ℕ → List Ssn
ssns_of P ns = shown_from ssn_at 0 P.streams ns

-- the words with the SSN of the stream i; past the last stream nothing is put
unfoldable pub ssn_put : Profile → List ℕ → ℕ → Ssn → List ℕ
ssn_put P ns i x = pick (ltb i P.streams) (set ns i x.0) ns

-- ---- laws

pub ssns-long : (P : Profile) (ns : List ℕ) → length (ssns_of P ns) ≡ P.streams
unfolding ssns_of
ssns-long P ns = shown-long ssn_at 0 P.streams ns

pub ssn-in : (P : Profile) (ns : List ℕ) (i : ℕ) → i < P.streams → ssn_at ns i ≡ get_or (ssns_of P ns) i ssn0
unfolding ssns_of
ssn-in P ns i h = shown-at ssn_at ssn0 P.streams ns i h

pub ssn-past : (P : Profile) (ns : List ℕ) (i : ℕ) → P.streams ≤ i → ssn0 ≡ get_or (ssns_of P ns) i ssn0
ssn-past P ns i h = let l : length (ssns_of P ns) ≤ i = omega (arith, ssns-long P ns) in sym (get_or-eq_default (ssns_of P ns) ssn0 l)

-- within its type, whatever the words
pub ssn-small : (P : Profile) (ns : List ℕ) (i : ℕ) → (get_or (ssns_of P ns) i ssn0).0 < 65536
ssn-small P ns i = go (dec_lt i P.streams)
  where
    go : Dec (i < P.streams) → (get_or (ssns_of P ns) i ssn0).0 < 65536
    go (yes h) = rw (← ssn-in P ns i h) (omega arith)
    go (no h) = rw (← ssn-past P ns i (omega arith)) (omega arith)

pub ssn-within : (P : Profile) (ns : List ℕ) (i : ℕ) (x : Ssn) → i < P.streams → set ns i x.0 ≡ ssn_put P ns i x
unfolding ssn_put
ssn-within P ns i x l = rw (lt-ltb i P.streams l)

pub ssn-out : (P : Profile) (ns : List ℕ) (i : ℕ) (x : Ssn) → P.streams ≤ i → ns ≡ ssn_put P ns i x
unfolding ssn_put
ssn-out P ns i x l = rw (le-ltb i P.streams l)

-- the SSNs after one is put: that one, and all others as they were
pub ssn-put : (P : Profile) (ns : List ℕ) (i : ℕ) (x : Ssn) → P.streams ≤ length ns → x.0 < 65536 → ssns_of P (ssn_put P ns i x) ≡ set (ssns_of P ns) i x
unfolding ssns_of
ssn-put P ns i x l s = go (dec_lt i P.streams)
  where
    here : i < P.streams → ssn_at (set ns i x.0) i ≡ x
    here k =
        let e : get_or (set ns i x.0) i 0 ≡ x.0 = get_or-set_same ns i x.0 0 (omega arith) in
        let q : x.0 % 65536 ≡ x.0 = omega arith in
        (λ p. record { 0 = (ap (λ (n : ℕ). n % 65536) e ∙ q) p })

    other : (m : ℕ) → (m ≡ i → ⊥) → ssn_at (set ns i x.0) m ≡ ssn_at ns m
    other m n = (λ p. record { 0 = get_or-set_other ns i m x.0 0 n p % 65536 })

    go : Dec (i < P.streams) → ssns_of P (ssn_put P ns i x) ≡ set (ssns_of P ns) i x
    go (yes k) = ap (ssns_of P) (sym (ssn-within P ns i x k)) ∙ shown-touched ssn_at i other (here k) P.streams k
    go (no k) =
        let m : length (ssns_of P ns) ≤ i = omega (arith, ssns-long P ns) in
        ap (ssns_of P) (sym (ssn-out P ns i x (omega arith))) ∙ sym (set_out (ssns_of P ns) i x m)

-- the words stay as many
pub ssn-put-long : (P : Profile) (ns : List ℕ) (i : ℕ) (x : Ssn) → length (ssn_put P ns i x) ≡ length ns
unfolding ssn_put
ssn-put-long P ns i x = go (ltb i P.streams)
  where
    go : (t : Bool) → length (pick t (set ns i x.0) ns) ≡ length ns
    go true = length-set ns i x.0
    go false = refl
