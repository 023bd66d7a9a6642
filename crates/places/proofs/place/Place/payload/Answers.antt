use borrow.Author.Tests.{eq-eqb, ne_eqb}
use native.Mathlib.Omega.{arith}
use borrow.Author.Rules.{rules}
use Rattle.places.specs.Places.{window_payload}
use Rattle.places.proofs.place.Place.payload.Goals as goal

pub returns-then-self-eq-FLYING : goal.returns-then-self-eq-FLYING
unfolding window_payload
returns-then-self-eq-FLYING c = (rw (eq-eqb _ _ c.if-self-eq-FLYING.true) c.from.ensures, rw c.from.ensures (search rules))

pub returns-else-self-eq-FLYING : goal.returns-else-self-eq-FLYING
unfolding window_payload
returns-else-self-eq-FLYING c = (rw (ne_eqb _ _ c.if-self-eq-FLYING.false), omega arith)
