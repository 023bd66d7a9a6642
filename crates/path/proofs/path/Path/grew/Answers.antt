use borrow.Author.Tests.{lt-ltb, le-ltb}
use Rattle.path.specs.Path.{grew}
use Rattle.path.proofs.path.Path.grew.Goals as goal

pub returns-then-newly-gt0 : goal.returns-then-newly-gt0
unfolding grew
returns-then-newly-gt0 c = rw (lt-ltb _ _ c.if-newly-gt0.true, c.grown-self.ensures, c.is_free-free.ensures)

pub returns-else-newly-gt0 : goal.returns-else-newly-gt0
unfolding grew
returns-else-newly-gt0 c = rw (le-ltb _ _ c.if-newly-gt0.false, c.grown-self.ensures, c.is_free-free.ensures)
