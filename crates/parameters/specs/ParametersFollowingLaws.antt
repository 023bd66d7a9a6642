-- What follows an INIT, an INIT ACK or an ERROR is not read with it: not its padding, and no other chunk. Assumes nothing.
use Rattle.std.specs.Prelude.{ℕ, ◌+◌, ◌-◌, ◌≤◌, ◌≡◌, List, ◌++◌, length, take, drop}
use Rattle.std.proofs.Common.{sym, ◌∙◌, arith, length-append, length-drop}
use Rattle.std.proofs.Math.Path.{ap}
use Rattle.std.proofs.lemmas.List.{take-append-le, drop-append-le}
use Rattle.octets.specs.Bytes.{u16}
use Rattle.octets.specs.BytesLaws.{u16-append}
use Rattle.octets.specs.Walk.{first_item}
use Rattle.chunks.specs.Frame.{part_from, bytes_in}
use Rattle.chunks.specs.BackLaws.{from_is}
use Rattle.chunks.specs.FollowingLaws.{init-append}
use Rattle.chunks.specs.declared.frame.Part.{Part}
use Rattle.parameters.specs.Parameter.{params_of, place_of, is_there, value_of}
use Rattle.parameters.specs.ParameterLaws.{value-inside}
use Rattle.parameters.specs.Report.{init_ack_bytes, error_parameters_bytes}
use Rattle.parameters.specs.Stale.{ends_causes, well_ended, stale_in}
use Rattle.parameters.specs.ParameterPaddingLaws.{parameters_listed, InitAlike, params-from}

-- a part that lies within c
pub part-append : (c rest : List ℕ) (p : Part) → p.at + p.len ≤ length c → bytes_in (c ++ rest) p ≡ bytes_in c p
part-append c rest p h =
    ap (take p.len) (drop-append-le p.at c rest (omega arith)) ∙ take-append-le p.len (drop p.at c) rest (omega (arith, length-drop p.at c))

-- c has the length that it says
module _ (c rest : List ℕ) (l : 20 ≤ length c) (e : u16 c 2 ≡ length c) where
  said : u16 (c ++ rest) 2 ≡ length c
  said = u16-append c rest 2 (omega arith) ∙ e

  part_same : part_from 20 (c ++ rest) ≡ part_from 20 c
  part_same =
      from_is (c ++ rest) (length c) said (omega (arith, length-append c rest)) 20 l ∙ sym (from_is c (length c) e (omega arith) 20 l)

  params_same : params_of (c ++ rest) ≡ params_of c
  params_same =
      params-from (c ++ rest) (omega (arith, said)) (omega (arith, said, length-append c rest))
      ∙ ap (λ (n : ℕ). take (n - 20) (drop 20 (c ++ rest))) (said ∙ sym e)
      ∙ part-append c rest (record { at = 20; len = u16 c 2 - 20 }) (omega (arith, e))
      ∙ sym (params-from c (omega (arith, e)) (omega (arith, e)))

  there-same : (k : ℕ) → is_there k (c ++ rest) ≡ is_there k c
  unfolding is_there place_of
  there-same k = rw params_same

  value_same : (k i : ℕ) → value_of k i (c ++ rest) ≡ value_of k i c
  unfolding value_of is_there place_of
  value_same k i = rw (params_same, part_same)

  pub following-alike : InitAlike c (c ++ rest)
  unfolding init_ack_bytes error_parameters_bytes
  following-alike = record {
    fields = init-append c rest l;
    each = ap parameters_listed params_same;
    there = there-same;
    value = λ k i h. value_same k i;
    bytes = λ k i h. ap (bytes_in (c ++ rest)) (value_same k i) ∙ part-append c rest (value_of k i c) (value-inside k i c);
    ack = λ v b. rw params_same;
    error = rw params_same;
  }

-- a stale cookie is reported by the value alone
pub stale-alike : (s t : List ℕ) → bytes_in t (part_from 4 t) ≡ bytes_in s (part_from 4 s) → stale_in t ≡ stale_in s
unfolding stale_in
stale-alike s t e = ap (λ (b : List ℕ). well_ended b (first_item ends_causes b 0)) e
