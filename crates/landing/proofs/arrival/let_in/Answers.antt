use Rattle.landing.specs.Landing.{packet_walked_over}
use Rattle.landing.specs.LandingLaws.{landed-in-done}
use Rattle.landing.proofs.arrival.let_in.Goals as goal

pub returns-clause-left : goal.returns-clause-left
unfolding packet_walked_over
returns-clause-left c = landed-in-done c.walk_over-w.result _ _ _ _ _ (rw (← c.read_header.ensures) c.walk_over-w.ensures.left.0) c.answer.ensures
