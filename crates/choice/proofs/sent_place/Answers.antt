use Rattle.numbers.specs.Profile.{rail}
use Rattle.std.proofs.Common.{eq-eqb, ne_eqb}
use Rattle.choice.specs.Fill.{sent_place, sent-new}
use Rattle.choice.proofs.sent_place.Goals as goal

pub returns-then-p-ne-MARKED : goal.returns-then-p-ne-MARKED
returns-then-p-ne-MARKED c = sent-new rail _ _ _ (ne_eqb _ _ c.if-p-ne-MARKED.true) c.next_ssn-p.ensures

pub returns-else-p-ne-MARKED : goal.returns-else-p-ne-MARKED
unfolding sent_place
returns-else-p-ne-MARKED c = rw (eq-eqb _ _ c.if-p-ne-MARKED.false)
