use Rattle.path.specs.Control.{fresh_control}
use Rattle.path.proofs.control.Control.fresh.Goals as goal

pub returns : goal.returns
unfolding fresh_control
returns c = rw c.of.ensures
