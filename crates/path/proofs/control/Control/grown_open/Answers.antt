use borrow.Author.Tests.{ne_eqb}
use Rattle.path.specs.Control.{grown_open}
use Rattle.path.proofs.control.Control.grown_open.Goals as goal

pub returns-then-mode-eq-MODE : goal.returns-then-mode-eq-MODE
unfolding grown_open
returns-then-mode-eq-MODE c = rw c.if-mode-eq-MODE.true c.grown_old.ensures

pub returns-else-mode-eq-MODE : goal.returns-else-mode-eq-MODE
unfolding grown_open
returns-else-mode-eq-MODE c = rw (ne_eqb _ _ c.if-mode-eq-MODE.false) c.grown_steady.ensures
