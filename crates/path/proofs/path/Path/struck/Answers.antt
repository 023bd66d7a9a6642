use Rattle.path.specs.Path.{struck_by}
use Rattle.path.proofs.path.Path.struck.Goals as goal

pub returns-then-is_free : goal.returns-then-is_free
unfolding struck_by
returns-then-is_free c = rw (← c.is_free.ensures, c.if-is_free.true, c.halved-self.ensures)

pub returns-else-is_free : goal.returns-else-is_free
unfolding struck_by
returns-else-is_free c = rw (← c.is_free.ensures, c.if-is_free.false)
