use Rattle.places.specs.Places.{outstanding_offset}
use Rattle.places.proofs.place.Place.last.Goals as goal

pub returns-then-is_outstanding : goal.returns-then-is_outstanding
unfolding outstanding_offset
returns-then-is_outstanding c = rw (← c.is_outstanding.ensures, c.if-is_outstanding.true) c.offset.ensures

pub returns-else-is_outstanding : goal.returns-else-is_outstanding
unfolding outstanding_offset
returns-else-is_outstanding c = rw (← c.is_outstanding.ensures, c.if-is_outstanding.false)
