use borrow.Author.Tests.{eq-eqb, ne_eqb}
use Rattle.path.specs.Control.{collapsed, halved}
use Rattle.path.proofs.control.Control.collapsed.Goals as goal

pub returns-then-mode-eq-MODE : goal.returns-then-mode-eq-MODE
unfolding collapsed halved
returns-then-mode-eq-MODE c = rw (c.of.ensures, c.halved-after.ensures, eq-eqb _ _ c.if-mode-eq-MODE.true)

pub returns-else-mode-eq-MODE : goal.returns-else-mode-eq-MODE
unfolding collapsed halved
returns-else-mode-eq-MODE c = rw (c.of.ensures, c.halved-after.ensures, ne_eqb _ _ c.if-mode-eq-MODE.false)
