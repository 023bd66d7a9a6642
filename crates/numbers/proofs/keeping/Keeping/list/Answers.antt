use Rattle.std.proofs.Common.{le-ltb, lt-ltb}
use Rattle.numbers.specs.Keeping.{listed}
use Rattle.numbers.proofs.keeping.Keeping.list.Goals as goal

pub returns-then-self-lt-LISTED : goal.returns-then-self-lt-LISTED
unfolding listed
returns-then-self-lt-LISTED c = rw (lt-ltb _ _ c.if-self-lt-LISTED.true)

pub returns-else-self-lt-LISTED : goal.returns-else-self-lt-LISTED
unfolding listed
returns-else-self-lt-LISTED c = rw (le-ltb _ _ c.if-self-lt-LISTED.false)
