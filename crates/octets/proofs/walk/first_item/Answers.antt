use Rattle.std.proofs.Common.{refl, arith, rules}
use Rattle.octets.specs.WalkLaws.{walking-none, walking-yes, walking-no, walking-end}
use Rattle.octets.proofs.walk.first_item.Goals as goal

pub loop-place-init : goal.loop-place-init
loop-place-init g c = walking-none _ _ _

pub returns-then-passes : goal.returns-then-passes
returns-then-passes g c = (walking-yes c.loop-place.invariant c.loop-place-test.true refl c.passes.ensures c.if-passes.true, search rules)

pub loop-place-preserved : goal.loop-place-preserved
loop-place-preserved g c = walking-no c.loop-place.invariant c.loop-place-test.true refl c.passes.ensures c.if-passes.false c.size-place.ensures.0

pub returns : goal.returns
returns g c = (walking-end c.loop-place.invariant c.loop-place-test.false, omega arith)
