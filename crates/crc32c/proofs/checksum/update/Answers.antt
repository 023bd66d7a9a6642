use Rattle.std.proofs.Common.{◌≡◌, ◌*◌, ◌/◌, ◌<◌, ◌∙◌, [], length, slice_index_or, refl, arith}
use Rattle.std.specs.Simd.{first_chunks}
use Rattle.crc32c_register.specs.Register.{crc_from}
use Rattle.crc32c_register.specs.RegisterLaws.{crc-end, crc-next}
use Rattle.crc32c.proofs.Laws.{eights-next}
use Rattle.crc32c.proofs.checksum.update.Goals as goal

pub loop-bytes-init : goal.loop-bytes-init
loop-bytes-init c = refl

pub loop-bytes-preserved : goal.loop-bytes-preserved
loop-bytes-preserved c =
    let s = c.args.s.now in
    let l = c.loop-bytes in
    let k = length s / 8 in
    let h : l.bytes-index < k = omega (arith, c.as_chunks.ensures.front_len) in
    let e : c.eight-r.result ≡ crc_from l.r (slice_index_or (first_chunks 8 k s) l.bytes-index []) = rw (← c.as_chunks.ensures.front) c.eight-r.ensures in
    eights-next l.r c.eight-r.result s k l.bytes-index h e ∙ l.invariant

pub loop-b-init : goal.loop-b-init
loop-b-init c =
    let q : length c.args.s.now / 8 * 8 ≡ 8 * c.loop-bytes.bytes-index = omega (arith, c.as_chunks.ensures.front_len) in
    rw (c.as_chunks.ensures.back, q) c.loop-bytes.invariant

pub loop-b-preserved : goal.loop-b-preserved
loop-b-preserved c =
    let l = c.loop-b in
    crc-next l.r c.one-r.result c.as_chunks.result.1.now l.b-index c.loop-b-test.true c.one-r.ensures ∙ l.invariant

pub returns : goal.returns
returns c =
    let l = c.loop-b in
    crc-end l.r c.as_chunks.result.1.now l.b-index c.loop-b-test.false ∙ l.invariant
