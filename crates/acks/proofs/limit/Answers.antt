use borrow.Author.Tests.{le-ltb}
use Rattle.std.proofs.Common.{◌≤◌, arith}
use Rattle.std.proofs.lemmas.Bool.{not-true, not-false}
use Rattle.sending.specs.SendingTableLaws.{limit_is}
use Rattle.tables.specs.OpenLaws.{by-law}
use Rattle.acks.proofs.limit.Goals as goal

pub returns-then-not-s : goal.returns-then-not-s
returns-then-not-s c = by-law (limit_is _ _ _) (rw (not-true _ c.if-not-s.true) c.from.ensures)

pub returns-in-0 : goal.returns-in-0
returns-in-0 c = by-law (limit_is _ _ _) (rw (not-false _ c.if-not-s.false, ← c.ahead_of.ensures, c.in-0.is) c.from-in-0.ensures)

pub returns-in_default : goal.returns-in_default
returns-in_default c = let l : 1 ≤ c.ahead_of.result = omega (arith, c.in_default) in by-law (limit_is _ _ _) (rw (not-false _ c.if-not-s.false, ← c.ahead_of.ensures, le-ltb _ _ l, c.from-in_default.ensures, c.from-in_default-2.ensures, c.top.ensures))
