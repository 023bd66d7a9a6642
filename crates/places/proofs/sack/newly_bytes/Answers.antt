use native.Mathlib.Omega.{arith}
use Rattle.places.specs.Sack.{newly_bytes}
use Rattle.places.proofs.sack.newly_bytes.Goals as goal

pub returns-then-is_newly : goal.returns-then-is_newly
unfolding newly_bytes
returns-then-is_newly c = (rw (← c.is_newly.ensures, c.if-is_newly.true) c.weight.ensures.0, c.weight.ensures.1)

pub returns-else-is_newly : goal.returns-else-is_newly
unfolding newly_bytes
returns-else-is_newly c = (rw (← c.is_newly.ensures, c.if-is_newly.false), omega arith)
