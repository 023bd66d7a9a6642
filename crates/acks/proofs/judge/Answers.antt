use borrow.Author.Tests.{eq-eqb, ne_eqb}
use Rattle.sending.specs.SendingTableLaws.{judged-is}
use Rattle.tables.specs.OpenLaws.{by-law}
use Rattle.acks.proofs.judge.Goals as goal

pub returns-then-s-k : goal.returns-then-s-k
returns-then-s-k c = by-law (judged-is _ _) (rw (eq-eqb _ _ c.if-s-k.true, ← c.room-room.ensures) c.judge_blocks.ensures)

pub returns : goal.returns
returns c = by-law (judged-is _ _) (rw (ne_eqb _ _ c.if-s-k.false, ← c.room-room.ensures, ← c.judge.ensures) c.judge_by.ensures)
