use Rattle.std.proofs.Common.{sym, ◌∙◌}
use Rattle.numbers.specs.Profile.{rail}
use Rattle.choice.specs.Fill.{next-at, next-none}
use Rattle.choice.proofs.next_ssn.Goals as goal

pub returns-then-c : goal.returns-then-c
returns-then-c c = sym (next-none rail _ _ c.if-c.true)

pub returns-else-c : goal.returns-else-c
returns-else-c c = (rw c.from.ensures at c.ssn_at.ensures) ∙ sym (next-at rail _ _ c.if-c.false)
