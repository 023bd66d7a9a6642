-- What the writer of each kind leaves reads back as its kind and its values. Assumes nothing.
use Rattle.std.specs.Prelude.{ℕ, ◌+◌, ◌-◌, ◌≡◌, refl, true, List, [], ◌++◌, length, take, drop, get_or}
use Rattle.std.proofs.Common.{ap, ◌∙◌, arith}
use Rattle.octets.specs.Bytes.{u16, be16, be32}
use Rattle.octets.specs.BytesLaws.{u16-at}
use Rattle.chunks.specs.Frame.{framed, parameter, weight}
use Rattle.chunks.specs.BackLaws.{Back, framed-length, framed-within, framed-bytes}
use Rattle.chunks.specs.Kind.{kind_of}
use Rattle.chunks.specs.KindLaws.{all_kinds}
use Rattle.chunks.specs.DataChunk.{data_fields, data_flags}
use Rattle.chunks.specs.DataLaws.{data_is}
use Rattle.chunks.specs.InitChunk.{init_fields}
use Rattle.chunks.specs.SackChunk.{sack_fields}
use Rattle.chunks.specs.SackLaws.{sack-is}
use Rattle.chunks.specs.CookieLaws.{echo-is}
use Rattle.chunks.specs.Cause.{caused}
use Rattle.chunks.specs.ChunkRoundTripLaws.{data-back, payload-back, init-back, value-back, cookie-back, reflected-back, point-back, sack-back, repeat-back, blocks-back}
use Rattle.chunks.specs.declared.init.Init.{Init}
use Rattle.chunks.specs.declared.kind.Kind.{Kind}
use Rattle.chunks.specs.declared.kind.Kind.TheVariants as variants
use Rattle.parameters.specs.Parameter.{COOKIE, params_of}
use Rattle.parameters.specs.Report.{gather_all, ROOM}
use Rattle.parameters.specs.ReportLaws.{init-ack-is}
use Rattle.parameters.specs.FillingLaws.{ack-back, ack-parameters, ack-cookie-bytes}
use Rattle.parameters.specs.StaleLaws.{stale-back}
use Rattle.parameters.specs.ParameterPaddingLaws.{params-from}
use Rattle.round_trips.specs.RoundTrips.{kind_in, WrittenBack}

-- the kind at place i of the thirteen
abbrev nth : ℕ → List Kind → Kind
nth i l = get_or l i variants.Data

kind-framed : (k f : ℕ) (v : List ℕ) {x : Kind} → kind_of k ≡ x → Back kind_in x (framed k f v)
kind-framed k f v e = record { value = λ rest. e }

-- an INIT of ours has no parameters
bare-params : (v : Init) → Back params_of [] (framed 1 0 (init_fields v))
bare-params v = record {
  value = λ rest.
      let s : List ℕ = framed 1 0 (init_fields v) ++ rest in
      let e : u16 s 2 ≡ 20 = (framed-length 1 0 (init_fields v)).value rest in
      params-from s (omega (arith, e)) (omega (arith, e, framed-within 1 0 (init_fields v) rest)) ∙ ap (λ (n : ℕ). take (n - 20) (drop 20 s)) e;
}

pub written_back : WrittenBack
written_back = record {
  of-data = λ d p h n. (
    record { kind = rw (data_is d p h n) (kind-framed 0 (data_flags d) (data_fields d ++ p) (ap (nth 0) all_kinds)); value = data-back d p h n },
    payload-back d p h n,
  );
  of-init = λ v. (record { kind = kind-framed 1 0 (init_fields v) (ap (nth 1) all_kinds); value = init-back 1 v [] }, bare-params v);
  of-init-ack = λ v c s h n. (
    record {
      kind = rw (init-ack-is v c s h n) (kind-framed 2 0 (init_fields v ++ gather_all ROOM true (parameter COOKIE c) (params_of s)) (ap (nth 2) all_kinds));
      value = ack-back v c s h n;
    },
    ack-parameters v c s h n,
    ack-cookie-bytes v c s h n,
  );
  of-sack = λ k h g. (
    record { kind = rw (sack-is k h g) (kind-framed 3 0 (sack_fields k) (ap (nth 3) all_kinds)); value = sack-back k h g },
    blocks-back k h g,
    repeat-back k h g,
  );
  of-heartbeat = λ v. (
    record { kind = kind-framed 4 0 (parameter 1 v) (ap (nth 4) all_kinds); value = value-back 4 0 (parameter 1 v) },
    framed-bytes 4 0 (be16 1 ++ be16 (4 + length v)) v,
  );
  of-heartbeat-ack = λ v. record { kind = kind-framed 5 0 v (ap (nth 5) all_kinds); value = value-back 5 0 v };
  of-abort = λ t v. (record { kind = kind-framed 6 (weight t 1) v (ap (nth 6) all_kinds); value = value-back 6 (weight t 1) v }, reflected-back 6 t v);
  of-shutdown = λ t. record { kind = kind-framed 7 0 (be32 t.0) (ap (nth 7) all_kinds); value = point-back t };
  of-shutdown-ack = record { kind = kind-framed 8 0 [] (ap (nth 8) all_kinds); value = value-back 8 0 [] };
  of-error = λ v. record { kind = kind-framed 9 0 v (ap (nth 9) all_kinds); value = value-back 9 0 v };
  of-cause = λ k f c info. (
    record { value = λ rest. u16-at (framed k f (caused c info) ++ rest) 4 c refl },
    record { value = λ rest. u16-at (framed k f (caused c info) ++ rest) 6 (4 + length info) refl },
    framed-bytes k f (be16 c ++ be16 (4 + length info)) info,
  );
  of-stale = λ c info. record { kind = kind-framed 9 0 (caused c info) (ap (nth 9) all_kinds); value = stale-back c info };
  of-cookie-echo = λ c h n. record { kind = rw (echo-is c h n) (kind-framed 10 0 c (ap (nth 10) all_kinds)); value = cookie-back c h n };
  of-cookie-ack = record { kind = kind-framed 11 0 [] (ap (nth 11) all_kinds); value = value-back 11 0 [] };
  of-shutdown-complete = λ t. record { kind = kind-framed 14 (weight t 1) [] (ap (nth 12) all_kinds); value = reflected-back 14 t [] };
}
