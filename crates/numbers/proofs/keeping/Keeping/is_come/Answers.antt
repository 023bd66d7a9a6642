use Rattle.std.proofs.Common.{le-ltb, lt-ltb, arith, rules}
use Rattle.numbers.specs.Keeping.{is_come, offset_of}
use Rattle.numbers.proofs.keeping.Keeping.is_come.Goals as goal

pub returns-then-offset-gt0 : goal.returns-then-offset-gt0
unfolding is_come offset_of
returns-then-offset-gt0 c = rw (← c.ahead_of-offset.ensures, le-ltb _ _ c.if-offset-gt0.true) (search rules)

pub returns-else-offset-gt0 : goal.returns-else-offset-gt0
unfolding is_come offset_of
returns-else-offset-gt0 c = rw (← c.ahead_of-offset.ensures, lt-ltb c.ahead_of-offset.result 1 (omega arith), le-ltb 0 c.ahead_of-offset.result c.if-offset-gt0.false)
