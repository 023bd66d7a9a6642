use Rattle.numbers.specs.Keeping.{keeping_sound}
use Rattle.numbers.proofs.keeping.Keeping.within_bounds.Goals as goal

pub returns-then-not-self : goal.returns-then-not-self
unfolding keeping_sound
returns-then-not-self c = rw c.if-not-self.true

pub returns-else-not-self : goal.returns-else-not-self
unfolding keeping_sound
returns-else-not-self c = rw c.if-not-self.false
