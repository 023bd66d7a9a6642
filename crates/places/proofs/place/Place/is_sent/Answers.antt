use borrow.Author.Tests.{eq-eqb, ne_eqb}
use Rattle.places.specs.Places.{is_sent}
use Rattle.places.proofs.place.Place.is_sent.Goals as goal

pub returns-then-self-eq-BLOCKED : goal.returns-then-self-eq-BLOCKED
unfolding is_sent
returns-then-self-eq-BLOCKED c = rw (eq-eqb _ _ c.if-self-eq-BLOCKED.true)

pub returns-else-self-eq-BLOCKED : goal.returns-else-self-eq-BLOCKED
unfolding is_sent
returns-else-self-eq-BLOCKED c = rw (ne_eqb _ _ c.if-self-eq-BLOCKED.false) c.is_outstanding.ensures
