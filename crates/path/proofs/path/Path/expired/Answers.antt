use borrow.Author.Tests.{lt-ltb, le-ltb}
use Rattle.path.specs.Path.{path_expired}
use Rattle.path.specs.Clock.{clock_doubled}
use Rattle.path.proofs.path.Path.expired.Goals as goal

pub returns-then-self-lt-TRIES : goal.returns-then-self-lt-TRIES
unfolding path_expired clock_doubled
returns-then-self-lt-TRIES c = rw (lt-ltb _ _ c.if-self-lt-TRIES.true, c.doubled-self.ensures, c.collapsed-self.ensures)

pub returns-else-self-lt-TRIES : goal.returns-else-self-lt-TRIES
unfolding path_expired clock_doubled
returns-else-self-lt-TRIES c = rw (le-ltb _ _ c.if-self-lt-TRIES.false, c.doubled-self.ensures, c.collapsed-self.ensures)
