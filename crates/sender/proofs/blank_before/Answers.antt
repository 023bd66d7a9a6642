use Rattle.std.proofs.Common.{refl, arith}
use Rattle.numbers.specs.Profile.{rail}
use Rattle.sender.specs.BlankLaws.{blank-eight, blank-more}
use Rattle.sender.proofs.blank_before.Goals as goal

pub loop-i-init : goal.loop-i-init
loop-i-init c = (refl, omega arith)

pub loop-i-smaller : goal.loop-i-smaller
loop-i-smaller c = let e = blank-eight rail c.args.t.now c.loop-i.i c.are_blank.ensures c.loop-i-test.true in omega (arith, e.0)

pub loop-i-preserved : goal.loop-i-preserved
loop-i-preserved c = let e = blank-eight rail c.args.t.now c.loop-i.i c.are_blank.ensures c.loop-i-test.true in (blank-more rail c.args.t.now c.loop-i.i c.loop-i.invariant.0 e.1, omega (arith, e.0))
