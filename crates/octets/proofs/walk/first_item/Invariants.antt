use Rattle.std.proofs.Common.{◌-◌, length}
use Rattle.octets.specs.WalkLaws.{Walking}
use Rattle.octets.proofs.walk.first_item.Given as goal

abbrev pub invariant-loop-place : goal.invariant-loop-place
invariant-loop-place g l = Walking (g.T.Test.passes l.test) l.s l.initial.place l.place

abbrev pub decreases-loop-place : goal.decreases-loop-place
decreases-loop-place g l = length l.s - l.place
