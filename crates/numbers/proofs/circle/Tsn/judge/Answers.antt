use Rattle.std.proofs.Common.{le-ltb, lt-ltb, arith}
use Rattle.numbers.specs.Judgement.{judged}
use Rattle.numbers.proofs.circle.Tsn.judge.Goals as goal

pub returns-in-Ahead : goal.returns-in-Ahead
unfolding judged
returns-in-Ahead c =
    rw (← c.distance.ensures, c.in-Ahead.is, le-ltb c.in-Ahead.d 1 (omega arith), lt-ltb _ _ c.if-room-d.true)

pub returns-in-Ahead-2 : goal.returns-in-Ahead-2
unfolding judged
returns-in-Ahead-2 c =
    rw (← c.distance.ensures, c.in-Ahead.is, le-ltb c.in-Ahead.d 1 (omega arith), le-ltb _ _ c.if-room-d.false)

pub returns-in-Ahead-3 : goal.returns-in-Ahead-3
unfolding judged
returns-in-Ahead-3 c = rw (← c.distance.ensures, c.in-Ahead.is, lt-ltb c.in-Ahead.d 1 (omega arith))

pub returns-in-Behind : goal.returns-in-Behind
unfolding judged
returns-in-Behind c = rw (← c.distance.ensures, c.in-Behind.is)

pub returns-in-Opposite : goal.returns-in-Opposite
unfolding judged
returns-in-Opposite c = rw (← c.distance.ensures, c.in-Opposite.is)
