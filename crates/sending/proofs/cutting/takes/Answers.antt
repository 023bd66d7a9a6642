use Rattle.std.proofs.Common.{eq-eqb, ne_eqb}
use Rattle.sending.specs.HandIn.{takes}
use Rattle.sending.proofs.cutting.takes.Goals as goal

pub returns-then-p-eq-FREE : goal.returns-then-p-eq-FREE
unfolding takes
returns-then-p-eq-FREE c = rw (eq-eqb _ _ c.if-p-eq-FREE.true)

pub returns-else-p-eq-FREE : goal.returns-else-p-eq-FREE
unfolding takes
returns-else-p-eq-FREE c = rw (ne_eqb _ _ c.if-p-eq-FREE.false)
