use Rattle.sending.specs.Acknowledge.{path_after}
use Rattle.sending.proofs.acknowledging.path_after.Goals as goal

pub returns : goal.returns
unfolding path_after
returns c = rw (c.ended.ensures, c.rested.ensures, c.struck.ensures, c.grew.ensures)
