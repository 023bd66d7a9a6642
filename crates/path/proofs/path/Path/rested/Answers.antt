use Rattle.path.specs.Path.{rested_by}
use Rattle.path.proofs.path.Path.rested.Goals as goal

pub returns-then-not-left : goal.returns-then-not-left
unfolding rested_by
returns-then-not-left c = rw c.if-not-left.true

pub returns-else-not-left : goal.returns-else-not-left
unfolding rested_by
returns-else-not-left c = rw c.if-not-left.false
