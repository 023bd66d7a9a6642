use Rattle.std.proofs.Common.{eq-eqb, ne_eqb}
use Rattle.sending.specs.SendingTableLaws.{tsn-is}
use Rattle.tables.specs.OpenLaws.{by-law}
use Rattle.choice.proofs.tsn_of.Goals as goal

pub returns-then-p-eq-MARKED : goal.returns-then-p-eq-MARKED
returns-then-p-eq-MARKED c = by-law (tsn-is _ _) (rw (eq-eqb _ _ c.if-p-eq-MARKED.true))

pub returns-else-p-eq-MARKED : goal.returns-else-p-eq-MARKED
returns-else-p-eq-MARKED c = by-law (tsn-is _ _) (rw (ne_eqb _ _ c.if-p-eq-MARKED.false))
