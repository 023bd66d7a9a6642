use Rattle.places.specs.Places.{gets}
use Rattle.places.proofs.place.Place.gets.Goals as goal

pub returns-then-is_outstanding : goal.returns-then-is_outstanding
unfolding gets
returns-then-is_outstanding c = rw (← c.is_outstanding.ensures, c.if-is_outstanding.true, ← c.offset.ensures, c.from.ensures)

pub returns-else-is_outstanding : goal.returns-else-is_outstanding
unfolding gets
returns-else-is_outstanding c = rw (← c.is_outstanding.ensures, c.if-is_outstanding.false)
