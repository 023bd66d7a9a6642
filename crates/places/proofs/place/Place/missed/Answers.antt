use borrow.Author.Tests.{lt-ltb, le-ltb, eq-eqb, ne_eqb}
use Rattle.places.specs.Places.{missed}
use Rattle.places.proofs.place.Place.missed.Goals as goal

pub returns-then-not-gets : goal.returns-then-not-gets
unfolding missed
returns-then-not-gets c = rw (← c.gets.ensures, c.if-not-gets.true)

pub returns-then-self : goal.returns-then-self
unfolding missed
returns-then-self c = rw (← c.gets.ensures, c.if-not-gets.false, lt-ltb _ _ c.if-self.true)

pub returns-then-self-2 : goal.returns-then-self-2
unfolding missed
returns-then-self-2 c = rw (← c.gets.ensures, c.if-not-gets.false, le-ltb _ _ c.if-self.false, eq-eqb _ _ c.if-self-2.true)

pub returns-else-self-2 : goal.returns-else-self-2
unfolding missed
returns-else-self-2 c = rw (← c.gets.ensures, c.if-not-gets.false, le-ltb _ _ c.if-self.false, ne_eqb _ _ c.if-self-2.false)
