use Rattle.std.proofs.Common.{ap, ◌∙◌}
use Rattle.pages.specs.Reading.{grown_by}
use Rattle.pages.specs.ReadingLaws.{value-more, grown-none}
use Rattle.pages.proofs.reading.value_of.Goals as goal
use Rattle.pages.proofs.reading.value_of.Goals.{in-Some, in_default}

pub loop-b-preserved : goal.loop-b-preserved
loop-b-preserved c = elim c.match-digit.branch [
  | in-Some w ↦ value-more c.loop-b.invariant c.loop-b-test.true (w.n-is ∙ w.grown-n.ensures ∙ ap (grown_by _ _) w.in-Some.ensures.0)
  | in_default w ↦ value-more c.loop-b.invariant c.loop-b-test.true (w.n-is ∙ grown-none _ _ w.in_default.ensures)
]
