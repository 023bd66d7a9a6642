use Rattle.path.specs.Clock.{fresh_clock}
use Rattle.path.proofs.clock.Clock.fresh.Goals as goal

pub returns : goal.returns
unfolding fresh_clock
returns c = rw c.of.ensures
