-- The answers of a take, by 01's numbers: 0 gives the first message that can be taken, with its bytes; 17 says that none can be taken, and is answered
-- wherever none can; 18 says the length of the first. Over either numbering and any profile.
use Rattle.std.specs.Prelude.{ℕ, suc, ◌+◌, ◌*◌, ◌<◌, ◌≤◌, ◌≡◌, true, drop, get_or}
use Rattle.std.proofs.Math.Path.{refl}
use Rattle.std.proofs.Common.{sym, ap, ◌∙◌, mul-suc, mul-le-mul_left, lt-ltb, le-ltb, length-append, length-drop, length-take-le}
use mathlib.Core.List.{List, [], ◌∷◌, ◌++◌}
use native.Mathlib.Omega.{arith}
use Rattle.std.proofs.Math.Decide.{dec_lt}
use Rattle.std.proofs.Math.ListN.{length}
use Rattle.numbers.specs.declared.circle.Ssn.{Ssn}
use Rattle.numbers.specs.Numbering.{Numberings}
use Rattle.numbers.specs.Profile.{Profile, payload_start}
use Rattle.octets.specs.Bytes.{laid}
use Rattle.octets.specs.BytesLaws.{laid_nil, laid_more, laid-is}
use Rattle.scans.specs.Each.{All, all-at, clash}
use Rattle.holding.specs.declared.held.Held.{Held}
use Rattle.holding.specs.declared.taking.Answer.TheVariants.{Short}
use Rattle.holding.specs.Held.{no_held}
use Rattle.holding.specs.Message.{Choice, none, one, chosen}
use Rattle.holding.specs.Taking.{take_number, len_at, length_of, payload_at, copied, took_by, took, written_by, written}
use Rattle.meaning.specs.Meant.{CanBeTaken, IsFirst, Stored}
use Rattle.meaning.proofs.MeantLaws.{chosen-taken, chosen-first, chosen_none}
use Rattle.meaning.specs.RunLaws.{used-within}
use Rattle.meaning.specs.Given.{bytes_of, GivesMessage, AreaFits}

-- ---- bytes

-- each place of a list, by index
each-place : (Q : ℕ → Type 0) (is : List ℕ) → ((k : ℕ) → k < length is → Q (get_or is k 0)) → All Q is
each-place Q [] f = tt
each-place Q (i ∷ is) f = (f 0 (omega arith), each-place Q is (λ k l. f (suc k) (omega arith)))

module _ (P : Profile) (hs : List Held) (area : List ℕ) where
  -- the payload at place i lies within the area
  abbrev Lies : ℕ → Type 0
  Lies i = length (payload_at P area i (len_at hs i)) ≡ len_at hs i

  lent-lies : Stored P hs → AreaFits P hs area → (i : ℕ) → (get_or hs i no_held).used ≡ true → Lies i
  lent-lies s w i u =
      let l : i < length hs = used-within hs i u in
      let m : len_at hs i ≤ P.payload = all-at (λ (h : Held). h.used ≡ true → h.len ≤ P.payload) hs i no_held (λ q. clash q) w.fit u in
      let n : P.payload * suc i ≤ P.payload * P.places = mul-le-mul_left P.payload (omega (arith, s.places)) in
      length-take-le (len_at hs i) (drop (payload_start P i) area) (omega (arith, length-drop (payload_start P i) area, mul-suc P.payload i, w.enough))

  bytes-long : (is : List ℕ) → All Lies is → length (bytes_of P area hs is) ≡ length_of hs is
  bytes-long [] w = refl
  bytes-long (i ∷ is) w =
      omega (arith, length-append (payload_at P area i (len_at hs i)) (bytes_of P area hs is), w.0, bytes-long is w.1)

  -- payload by payload, or all bytes at once
  copied-laid : (is : List ℕ) (out : List ℕ) (at : ℕ) → All Lies is → copied P area hs out at is ≡ laid out at (bytes_of P area hs is)
  copied-laid [] out at w = sym (laid_nil out at)
  copied-laid (i ∷ is) out at w =
      copied-laid is (laid out at p) (at + len_at hs i) w.1
      ∙ (ap (λ (n : ℕ). laid (laid out at p) (at + n) (bytes_of P area hs is)) (sym w.0) ∙ laid_more p (bytes_of P area hs is) out at)
    where
      p : List ℕ
      p = payload_at P area i (len_at hs i)

  copied_is : (is : List ℕ) (out : List ℕ) → All Lies is → length_of hs is ≤ length out
      → copied P area hs out 0 is ≡ bytes_of P area hs is ++ drop (length_of hs is) out
  copied_is is out w l =
      let n : length (bytes_of P area hs is) ≡ length_of hs is = bytes-long is w in
      let z : 0 + length (bytes_of P area hs is) ≡ length_of hs is = omega arith in
      copied-laid is out 0 w
      ∙ (laid-is (bytes_of P area hs is) out 0 (omega arith) ∙ ap (λ (k : ℕ). bytes_of P area hs is ++ drop k out) z)

-- ---- the answers

module _ (N : Numberings) (P : Profile) (hs : List Held) (next : List Ssn) (point : ℕ) (area out : List ℕ) (stored : Stored P hs) where
  -- the answer's number
  abbrev answered : ℕ
  answered = take_number (took N P hs next point (length out)).answer

  -- a message is given, and it is the first of those that can be taken
  pub took-gives : AreaFits P hs area → answered ≡ 0
      → (is : List ℕ) × IsFirst N P hs next point is × GivesMessage N.ssn P hs next area out is (took N P hs next point (length out)) (written N P hs next point area out)
  unfolding took written
  took-gives lent e = go (chosen N P hs next point) refl e
    where
      go : (c : Choice) → chosen N P hs next point ≡ c → take_number (took_by N.ssn hs next (length out) c).answer ≡ 0
          → (is : List ℕ) × IsFirst N P hs next point is × GivesMessage N.ssn P hs next area out is (took_by N.ssn hs next (length out) c) (written_by P hs area out c)
      go none q e = absurd (omega arith)
      go (one l []) q e = absurd (omega (arith, (chosen-taken N P hs next point l [] q).0.message.some))
      go (one l (i ∷ is)) q e = side (dec_lt (length out) (length_of hs (i ∷ is))) e
        where
          f : IsFirst N P hs next point (i ∷ is)
          f = chosen-first N P hs next point stored l (i ∷ is) q

          lies : All (Lies P hs area) (i ∷ is)
          lies = each-place (Lies P hs area) (i ∷ is) (λ k m. lent-lies P hs area stored lent (get_or (i ∷ is) k 0) (f.ready.message.held k m))

          side : Dec (length out < length_of hs (i ∷ is)) → take_number (took_by N.ssn hs next (length out) (one l (i ∷ is))).answer ≡ 0
              → (js : List ℕ) × IsFirst N P hs next point js × GivesMessage N.ssn P hs next area out js (took_by N.ssn hs next (length out) (one l (i ∷ is))) (written_by P hs area out (one l (i ∷ is)))
          side (yes m) e = absurd (omega (arith, rw (lt-ltb (length out) (length_of hs (i ∷ is)) m) at e))
          side (no m) e =
              let n : length_of hs (i ∷ is) ≤ length out = omega arith in
              rw (le-ltb (length out) (length_of hs (i ∷ is)) n) (
                i ∷ is,
                f,
                record {
                  told = refl;
                  long = bytes-long P hs area (i ∷ is) lies;
                  room = n;
                  bytes = copied_is P hs area (i ∷ is) out lies n;
                  freed = refl;
                  moved = refl;
                },
              )

  -- nothing can be taken
  pub took-nothing : answered ≡ 17 → (js : List ℕ) → CanBeTaken N P hs next js → ⊥
  unfolding took
  took-nothing e = go (chosen N P hs next point) refl e
    where
      go : (c : Choice) → chosen N P hs next point ≡ c → take_number (took_by N.ssn hs next (length out) c).answer ≡ 17 → (js : List ℕ) → CanBeTaken N P hs next js → ⊥
      go none q e = chosen_none N P hs next point stored q
      go (one l is) q e = side (dec_lt (length out) (length_of hs is))
        where
          side : Dec (length out < length_of hs is) → (js : List ℕ) → CanBeTaken N P hs next js → ⊥
          side (yes m) = absurd (omega (arith, rw (lt-ltb (length out) (length_of hs is) m) at e))
          side (no m) = let n : length_of hs is ≤ length out = omega arith in absurd (omega (arith, rw (le-ltb (length out) (length_of hs is) n) at e))

  -- and where nothing can be, that is the answer
  pub nothing-took : ((js : List ℕ) → CanBeTaken N P hs next js → ⊥) → answered ≡ 17
  unfolding took
  nothing-took f = go (chosen N P hs next point) refl
    where
      go : (c : Choice) → chosen N P hs next point ≡ c → take_number (took_by N.ssn hs next (length out) c).answer ≡ 17
      go none q = refl
      go (one l is) q = absurd (f is (chosen-taken N P hs next point l is q).0)

  -- "A take with a short buffer answers 18 with the length needed": that of the first message
  pub took-short : answered ≡ 18
      → (is : List ℕ) × IsFirst N P hs next point is × (length out < length_of hs is) × ((took N P hs next point (length out)).answer ≡ Short (length_of hs is))
  unfolding took
  took-short e = go (chosen N P hs next point) refl e
    where
      go : (c : Choice) → chosen N P hs next point ≡ c → take_number (took_by N.ssn hs next (length out) c).answer ≡ 18
          → (is : List ℕ) × IsFirst N P hs next point is × (length out < length_of hs is) × ((took_by N.ssn hs next (length out) c).answer ≡ Short (length_of hs is))
      go none q e = absurd (omega arith)
      go (one l is) q e = side (dec_lt (length out) (length_of hs is)) e
        where
          side : Dec (length out < length_of hs is) → take_number (took_by N.ssn hs next (length out) (one l is)).answer ≡ 18
              → (js : List ℕ) × IsFirst N P hs next point js × (length out < length_of hs js) × ((took_by N.ssn hs next (length out) (one l is)).answer ≡ Short (length_of hs js))
          side (yes m) e = (is, chosen-first N P hs next point stored l is q, m, rw (lt-ltb (length out) (length_of hs is) m))
          side (no m) e = let n : length_of hs is ≤ length out = omega arith in absurd (omega (arith, rw (le-ltb (length out) (length_of hs is) n) at e))
