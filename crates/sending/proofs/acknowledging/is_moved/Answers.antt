use Rattle.sending.specs.Acknowledge.{is_moved}
use Rattle.sending.proofs.acknowledging.is_moved.Goals as goal

pub returns : goal.returns
unfolding is_moved
returns c = rw c.ahead_of.ensures
