use Rattle.std.proofs.Common.{eq-eqb, ne_eqb}
use Rattle.choice.specs.Fill.{sent_head}
use Rattle.choice.proofs.sent_head.Goals as goal

pub returns-then-p-ne-MARKED : goal.returns-then-p-ne-MARKED
unfolding sent_head
returns-then-p-ne-MARKED c = (rw (ne_eqb _ _ c.if-p-ne-MARKED.true, c.after-s.ensures, c.flown-s.ensures.0), c.flown-s.ensures.1)

pub returns-else-p-ne-MARKED : goal.returns-else-p-ne-MARKED
unfolding sent_head
returns-else-p-ne-MARKED c = (rw (eq-eqb _ _ c.if-p-ne-MARKED.false, c.flown-s.ensures.0), c.flown-s.ensures.1)
