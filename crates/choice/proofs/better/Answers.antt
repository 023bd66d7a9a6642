use Rattle.std.proofs.Common.{rules, le-ltb, lt-ltb}
use Rattle.sending.specs.SendingTableLaws.{better-place-is}
use Rattle.tables.specs.OpenLaws.{by-law}
use Rattle.choice.proofs.better.Goals as goal

pub returns-then-k-b : goal.returns-then-k-b
returns-then-k-b c = (by-law (better-place-is _ _ _ _ _) (rw (← c.rank-k.ensures, lt-ltb _ _ c.if-k-b.true)), search rules)

pub returns-else-k-b : goal.returns-else-k-b
returns-else-k-b c = (by-law (better-place-is _ _ _ _ _) (rw (← c.rank-k.ensures, le-ltb _ _ c.if-k-b.false)), search rules)
