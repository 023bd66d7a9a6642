use borrow.Author.Tests.{lt-ltb, le-ltb, lt-leb}
use Rattle.places.specs.SackBlocks.{block_has}
use Rattle.places.proofs.blocks.block_has.Goals as goal

pub returns-then-from-d : goal.returns-then-from-d
unfolding block_has
returns-then-from-d c = rw (← c.from.ensures, le-ltb _ _ c.if-from-d.true, c.from-then-from-d.ensures)

pub returns-else-from-d : goal.returns-else-from-d
unfolding block_has
returns-else-from-d c = rw (← c.from.ensures, lt-ltb _ _ c.if-from-d.false, lt-leb _ _ c.if-from-d.false)
