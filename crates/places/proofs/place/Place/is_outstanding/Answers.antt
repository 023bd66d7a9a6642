use borrow.Author.Tests.{eq-eqb, ne_eqb}
use Rattle.places.specs.Places.{is_outstanding}
use Rattle.places.proofs.place.Place.is_outstanding.Goals as goal

pub returns-then-self-eq-FLYING : goal.returns-then-self-eq-FLYING
unfolding is_outstanding
returns-then-self-eq-FLYING c = rw (eq-eqb _ _ c.if-self-eq-FLYING.true)

pub returns-else-self-eq-FLYING : goal.returns-else-self-eq-FLYING
unfolding is_outstanding
returns-else-self-eq-FLYING c = rw (ne_eqb _ _ c.if-self-eq-FLYING.false)
