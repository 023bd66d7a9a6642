use Rattle.places.specs.Sack.{is_newly}
use Rattle.places.proofs.sack.is_newly.Goals as goal

pub returns-then-is_outstanding : goal.returns-then-is_outstanding
unfolding is_newly
returns-then-is_outstanding c = rw (← c.is_outstanding.ensures, c.if-is_outstanding.true, ← c.is_outstanding-then-is_outstanding.ensures)

pub returns-else-is_outstanding : goal.returns-else-is_outstanding
unfolding is_newly
returns-else-is_outstanding c = rw (← c.is_outstanding.ensures, c.if-is_outstanding.false)
