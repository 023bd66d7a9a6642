use Prim.Native.Nat.{◌+◌, ◌-◌}
use mathlib.Core.Path.{◌≡◌, sym, ◌∙◌}
use native.Mathlib.Omega.{arith}
use borrow.Author.Tests.{le-ltb}
use Rattle.taking.specs.FreeLaws.{free-one, free-used, free-all}
use Rattle.taking.proofs.choosing.are_free.Goals as goal

pub loop-place-init : goal.loop-place-init
loop-place-init c = let z : c.args.i + 8 - c.args.i ≡ 8 = omega arith in rw z

pub returns-then-is_used : goal.returns-then-is_used
returns-then-is_used c = rw (le-ltb _ _ c.if-i-gt120.false) (free-used _ c.args.i 8 c.loop-place.place c.loop-place.auto.place c.loop-place-test.true c.loop-place.invariant (sym c.is_used.ensures ∙ c.if-is_used.true))

pub loop-place-preserved : goal.loop-place-preserved
loop-place-preserved c = free-one _ c.args.i 8 c.loop-place.place c.loop-place.auto.place c.loop-place-test.true c.loop-place.invariant (sym c.is_used.ensures ∙ c.if-is_used.false)

pub returns : goal.returns
returns c = rw (le-ltb _ _ c.if-i-gt120.false) (free-all _ c.args.i 8 c.loop-place.place c.loop-place-test.false c.loop-place.invariant)
