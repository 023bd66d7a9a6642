use Rattle.sending.specs.SendingBounds.{is_gap}
use Rattle.sender.specs.BlankLaws.{Gapping}
use Rattle.sender.proofs.has_gap.Given as goal

abbrev pub invariant-loop-j : goal.invariant-loop-j
invariant-loop-j l = Gapping (is_gap l.seen) l.n l.j l.gap
