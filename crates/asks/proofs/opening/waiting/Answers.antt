use Rattle.calls.specs.Opening.{wanting}
use Rattle.asks.proofs.opening.waiting.Goals as goal

pub returns : goal.returns
unfolding wanting
returns c = rw (← c.wanted.ensures) c.started.ensures
