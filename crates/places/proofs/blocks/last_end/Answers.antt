use borrow.Author.Tests.{le-ltb}
use native.Mathlib.Omega.{arith}
use Prim.Native.Nat.{◌≤◌}
use Rattle.places.specs.SackBlocks.{last_end}
use Rattle.places.proofs.blocks.last_end.Goals as goal

pub returns-then-j-eq0 : goal.returns-then-j-eq0
unfolding last_end
returns-then-j-eq0 c = rw c.if-j-eq0.true

pub returns-else-j-eq0 : goal.returns-else-j-eq0
unfolding last_end
returns-else-j-eq0 c = let l : 1 ≤ c.args.j = omega (arith, c.if-j-eq0.false) in rw (le-ltb _ _ l)
