use Rattle.path.specs.Path.{recovery_ended}
use Rattle.path.proofs.path.Path.ended.Goals as goal

pub returns-then-is_reached : goal.returns-then-is_reached
unfolding recovery_ended
returns-then-is_reached c = rw (← c.is_reached.ensures, c.if-is_reached.true)

pub returns-else-is_reached : goal.returns-else-is_reached
unfolding recovery_ended
returns-else-is_reached c = rw (← c.is_reached.ensures, c.if-is_reached.false)
