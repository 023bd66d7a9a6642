use Rattle.sending.specs.Acknowledge.{is_closed_window}
use Rattle.sending.proofs.acknowledging.is_closed_window.Goals as goal

pub returns-then-k : goal.returns-then-k
unfolding is_closed_window
returns-then-k c = rw c.if-k.true

pub returns-else-k : goal.returns-else-k
unfolding is_closed_window
returns-else-k c = rw c.if-k.false
