use borrow.Author.Tests.{eq-eqb, ne_eqb}
use native.Mathlib.Omega.{arith}
use Rattle.places.specs.Places.{flight_of}
use Rattle.places.proofs.place.Place.flight.Goals as goal

pub returns-then-self-eq-FLYING : goal.returns-then-self-eq-FLYING
unfolding flight_of
returns-then-self-eq-FLYING c = (rw (eq-eqb _ _ c.if-self-eq-FLYING.true) c.weight.ensures.0, c.weight.ensures.1)

pub returns-else-self-eq-FLYING : goal.returns-else-self-eq-FLYING
unfolding flight_of
returns-else-self-eq-FLYING c = (rw (ne_eqb _ _ c.if-self-eq-FLYING.false), omega arith)
