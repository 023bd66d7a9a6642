use borrow.Author.Tests.{lt-ltb, le-ltb}
use Rattle.path.specs.Control.{grown}
use Rattle.path.proofs.control.Control.grown.Goals.{else-self-flight-via-then-self-flight+else-free, else-self-flight-via-else-self-flight}
use Rattle.path.proofs.control.Control.grown.Goals as goal

pub returns-then-self : goal.returns-then-self
unfolding grown
returns-then-self c = rw (lt-ltb _ _ c.if-self.true) c.grown_open.ensures

pub returns-then-free : goal.returns-then-free
unfolding grown
returns-then-free c = rw (le-ltb _ _ c.if-self.false, le-ltb _ _ c.if-self-flight.true, c.if-free.true) c.grown_slow.ensures

pub returns-else-self-flight : goal.returns-else-self-flight
unfolding grown
returns-else-self-flight c = elim c.else-self-flight.branch [
  | else-self-flight-via-then-self-flight+else-free w ↦ rw (le-ltb _ _ c.if-self.false, le-ltb _ _ w.if-self-flight.true, w.if-free.false)
  | else-self-flight-via-else-self-flight w ↦ rw (le-ltb _ _ c.if-self.false, lt-ltb _ _ w.if-self-flight.false)
]
