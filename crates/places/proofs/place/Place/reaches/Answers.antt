use Rattle.places.specs.Places.{reaches_three}
use Rattle.places.proofs.place.Place.reaches.Goals as goal

pub returns-then-gets : goal.returns-then-gets
unfolding reaches_three
returns-then-gets c = rw (← c.gets.ensures, c.if-gets.true)

pub returns-else-gets : goal.returns-else-gets
unfolding reaches_three
returns-else-gets c = rw (← c.gets.ensures, c.if-gets.false)
