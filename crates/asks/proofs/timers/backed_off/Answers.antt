use Rattle.calls.specs.Timers.{association_backed_off}
use Rattle.asks.proofs.timers.backed_off.Goals as goal

pub returns : goal.returns
unfolding association_backed_off
returns c = rw c.doubled.ensures
