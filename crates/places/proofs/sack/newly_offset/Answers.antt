use Rattle.places.specs.Sack.{newly_offset}
use Rattle.places.proofs.sack.newly_offset.Goals as goal

pub returns-then-is_newly : goal.returns-then-is_newly
unfolding newly_offset
returns-then-is_newly c = rw (← c.is_newly.ensures, c.if-is_newly.true) c.offset.ensures

pub returns-else-is_newly : goal.returns-else-is_newly
unfolding newly_offset
returns-else-is_newly c = rw (← c.is_newly.ensures, c.if-is_newly.false)
