-- What is gathered fills its chunk, and begins with what was there; so an INIT ACK is read back as it was written. Assumes nothing.
use Prim.Native.Nat.{ℕ, ◌+◌, ◌-◌, ◌%◌, ◌≤◌}
use Rattle.std.specs.Prelude.{◌≡◌, Bool, ltb}
use Rattle.std.proofs.Math.Path.{refl, sym, ap}
use Rattle.std.proofs.Common.{◌∙◌}
use Rattle.std.proofs.Math.Bool.{true, false}
use mathlib.Core.List.{List, [], ◌++◌, append_assoc, append-nil}
use native.Mathlib.Omega.{arith}
use Rattle.std.proofs.Math.ListN.{length, take, drop, length-append}
use Rattle.std.proofs.Math.Seq.{take_at}
use borrow.Author.Tests.{eq-eqb}
use Rattle.scans.specs.Upto.{pick-keeps}
use Rattle.octets.specs.Bytes.{u16, up4, zeros}
use Rattle.octets.specs.BytesLaws.{u16-at, u16-append, part-is, zeros_of, zeros-long}
use Rattle.octets.specs.WalkLaws.{over-keeps}
use Rattle.chunks.specs.Frame.{parameter, framed, part_from, bytes_in, chunk_end, behind}
use Rattle.chunks.specs.BackLaws.{Back, from_is, framed-part}
use Rattle.chunks.specs.ChunkRoundTripLaws.{init-back, parameters-back}
use Rattle.chunks.specs.InitChunk.{init_of, init_fields}
use Rattle.chunks.specs.declared.init.Init.{Init}
use Rattle.parameters.specs.Parameter.{COOKIE, is_kind, params_of, value_of, treated}
use Rattle.parameters.specs.ParameterLaws.{value-is, found_here}
use Rattle.parameters.specs.Report.{report, fitted, Gathered, parameter_judged, gather_one, gather_all, ROOM, init_ack_bytes}
use Rattle.parameters.specs.ReportLaws.{judged-keeps, init-ack-is}

-- ---- what every step keeps, the whole keeps

module _ (P : List ℕ → Type 0) (room : ℕ) (w : Bool) (k : (x p : List ℕ) → P x → P (behind x (report w p))) where
  fitted-keeps : (x p : List ℕ) → P x → P (fitted room x (report w p))
  unfolding fitted
  fitted-keeps x p h = pick-keeps P (ltb room (up4 (length (behind x (report w p))))) x (behind x (report w p)) h (k x p h)

  one-keeps : (g : Gathered) (t : List ℕ) → P g.bytes → P (gather_one room w g t).bytes
  unfolding gather_one
  one-keeps g t q =
      pick-keeps (λ (x : Gathered). P x.bytes) g.done g (parameter_judged room w g.bytes (take (chunk_end t) t) (treated (u16 t 0))) q
      (judged-keeps P room w g.bytes (take (chunk_end t) t) (treated (u16 t 0)) q (fitted-keeps g.bytes (take (chunk_end t) t) q))

  pub gather-keeps : (acc b : List ℕ) → P acc → P (gather_all room w acc b)
  unfolding gather_all
  gather-keeps acc b q = over-keeps (λ (g : Gathered). P g.bytes) (gather_one room w) b (λ g at p. one-keeps g (drop at b) p) (record { bytes = acc; done = false }) 0 q

-- ---- "Parameters .. fill the chunk to its length exactly, the last one's padding excluded"

-- one parameter alone, or one with its padding and others that fill the rest
pub data Filling : List ℕ → Type 0 where
  last : {s : List ℕ} → 4 ≤ length s → u16 s 2 ≡ length s → Filling s
  more : {s : List ℕ} (p b : List ℕ) → s ≡ p ++ b → 4 ≤ u16 p 2 → up4 (u16 p 2) ≡ length p → Filling b → Filling s

zeros-same : (a b : ℕ) → a % 4 ≡ 0 → zeros (a + b) ≡ zeros b
zeros-same a b h =
    let k : ℕ = up4 b - b in
    let r : ℕ = b % 4 in
    sym (zeros_of (a + b) k r (omega arith) (omega arith) (omega arith) (omega arith)) ∙ zeros_of b k r refl (omega arith) (omega arith) (omega arith)

-- a parameter behind those that fill a chunk
pub filling-more : {s : List ℕ} → Filling s → (q : List ℕ) → 4 ≤ length q → u16 q 2 ≡ length q → Filling (behind s q)
filling-more {s} (last h e) q l m =
    let u : u16 (s ++ zeros (length s)) 2 ≡ length s = u16-append s (zeros (length s)) 2 (omega arith) ∙ e in
    more (s ++ zeros (length s)) q (sym (append_assoc s (zeros (length s)) q)) (omega (arith, u)) (ap up4 u ∙ omega (arith, length-append s (zeros (length s)), zeros-long (length s))) (last l m)
filling-more {s} (more p b e h g f) q l m =
    let z : zeros (length s) ≡ zeros (length b) = ap zeros (ap length e ∙ length-append p b) ∙ zeros-same (length p) (length b) (omega arith) in
    more p (behind b q) ((λ i. e i ++ (z i ++ q)) ∙ append_assoc p b (zeros (length b) ++ q)) h g (filling-more f q l m)

pub parameter-fills : (k : ℕ) (v : List ℕ) → (4 ≤ length (parameter k v)) × (u16 (parameter k v) 2 ≡ length (parameter k v))
parameter-fills k v = (omega arith, u16-at (parameter k v) 2 (4 + length v) refl ∙ omega arith)

-- the cookie and the reports
pub gathered-fills : (c b : List ℕ) → Filling (gather_all ROOM true (parameter COOKIE c) b)
gathered-fills c b =
    gather-keeps Filling ROOM true (λ x p f. filling-more f (parameter 8 p) (parameter-fills 8 p).0 (parameter-fills 8 p).1) (parameter COOKIE c) b
    (last (parameter-fills COOKIE c).0 (parameter-fills COOKIE c).1)

-- what was there is still the beginning
pub record Begun (acc x : List ℕ) : Type 0 where
  pub rest : List ℕ
  pub is : x ≡ acc ++ rest

pub gathered-begins : (room : ℕ) (w : Bool) (acc b : List ℕ) → Begun acc (gather_all room w acc b)
gathered-begins room w acc b =
    gather-keeps (Begun acc) room w
    (λ x p f. record { rest = f.rest ++ (zeros (length x) ++ report w p); is = ap (λ (l : List ℕ). l ++ (zeros (length x) ++ report w p)) f.is ∙ append_assoc acc f.rest (zeros (length x) ++ report w p) })
    acc b (record { rest = []; is = sym (append-nil acc) })

-- ---- INIT ACK, written and read

module _ (v : Init) (c s : List ℕ) (h : length c ≤ 256) (n : length c ≡ 0 → ⊥) where
  all : List ℕ
  all = gather_all ROOM true (parameter COOKIE c) (params_of s)

  bytes : init_ack_bytes v c s ≡ framed 2 0 (init_fields v ++ all)
  unfolding all
  bytes = init-ack-is v c s h n

  pub ack-back : Back init_of v (init_ack_bytes v c s)
  ack-back = rw bytes (init-back 2 v all)

  pub ack-parameters : Back params_of (gather_all ROOM true (parameter COOKIE c) (params_of s)) (init_ack_bytes v c s)
  unfolding params_of all
  ack-parameters = rw bytes (parameters-back 2 v all)

  pub ack-cookie : Back (value_of COOKIE 4) (record { at = 24; len = length c }) (init_ack_bytes v c s)
  unfolding all is_kind
  ack-cookie = record {
    value = λ rest.
        let t : List ℕ = init_ack_bytes v c s ++ rest in
        let g : Begun (parameter COOKIE c) all = gathered-begins ROOM true (parameter COOKIE c) (params_of s) in
        let l : length all ≡ 4 + length c + length g.rest = ap length g.is ∙ length-append (parameter COOKIE c) g.rest ∙ omega arith in
        let k : is_kind COOKIE (drop 0 all) ≡ true = ap (is_kind COOKIE) g.is ∙ eq-eqb (u16 (parameter COOKIE c ++ g.rest) 0) COOKIE (u16-at (parameter COOKIE c ++ g.rest) 0 COOKIE refl) in
        let u : u16 all 2 ≡ 4 + length c = ap (λ (x : List ℕ). u16 x 2) g.is ∙ u16-at (parameter COOKIE c ++ g.rest) 2 (4 + length c) refl in
        let p : part_from 20 t ≡ record { at = 20; len = length all } = ap (λ (x : List ℕ). part_from 20 (x ++ rest)) bytes ∙ (framed-part 2 0 (init_fields v) all).value rest in
        let q : part_from 4 all ≡ record { at = 4; len = 4 + length c - 4 } = from_is all (4 + length c) u (omega (arith, l)) 4 (omega arith) in
        let z : 4 + length c - 4 ≡ length c = omega arith in
        sym (value-is COOKIE t (sym (ack-parameters.value rest)) (sym (found_here COOKIE all (omega (arith, l)) k)) 4 (record { at = 20; len = length all }) (record { at = 4; len = length c })
        (omega (arith, l)) (sym p) (sym (ap (part_from 4) (part-is all 0) ∙ q ∙ ap (λ (j : ℕ). record { at = 4; len = j }) z)));
  }

  pub ack-cookie-bytes : Back (λ (x : List ℕ). bytes_in x (value_of COOKIE 4 x)) c (init_ack_bytes v c s)
  unfolding all
  ack-cookie-bytes = record {
    value = λ rest.
        let g : Begun (parameter COOKIE c) all = gathered-begins ROOM true (parameter COOKIE c) (params_of s) in
        let e : init_ack_bytes v c s ++ rest ≡ framed 2 0 (init_fields v ++ (parameter COOKIE c ++ g.rest)) ++ rest = ap (λ (x : List ℕ). x ++ rest) (bytes ∙ ap (λ (x : List ℕ). framed 2 0 (init_fields v ++ x)) g.is) in
        let m : ℕ = 4 + length (init_fields v ++ (parameter COOKIE c ++ g.rest)) in
        let d : drop 24 (framed 2 0 (init_fields v ++ (parameter COOKIE c ++ g.rest)) ++ rest) ≡ c ++ (g.rest ++ (zeros m ++ rest)) = append_assoc (c ++ g.rest) (zeros m) rest ∙ append_assoc c g.rest (zeros m ++ rest) in
        rw (ack-cookie.value rest) (ap (λ (x : List ℕ). take (length c) (drop 24 x)) e ∙ ap (take (length c)) d ∙ take_at c (g.rest ++ (zeros m ++ rest)) (length c) refl);
  }
