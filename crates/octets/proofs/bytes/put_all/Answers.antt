use Rattle.std.proofs.Common.{◌≡◌, arith, sym, add-one}
use Rattle.octets.specs.BytesLaws.{laid_nil, laid_out, laid-next, laid-enough}
use Rattle.octets.proofs.bytes.put_all.Goals as goal

pub loop-i-init : goal.loop-i-init
loop-i-init c = sym (laid_nil c.args.out.now c.args.at)

pub loop-i-preserved : goal.loop-i-preserved
loop-i-preserved c =
    rw (c.loop-i.invariant, add-one c.loop-i.i)
    (laid-next c.args.out.now c.args.at c.loop-i.i c.args.src.now (omega arith))

pub returns-after-loop-i : goal.returns-after-loop-i
returns-after-loop-i c =
    let e : c.loop-i.i ≡ c.min-n.result = omega arith in
    rw (c.loop-i.invariant, e)
    (laid-enough c.args.out.now c.args.at c.min-n.result c.args.src.now (omega arith) (λ h. omega arith))

pub returns-else-at-out : goal.returns-else-at-out
returns-else-at-out c = laid_out _ _ _ c.if-at-out.false
