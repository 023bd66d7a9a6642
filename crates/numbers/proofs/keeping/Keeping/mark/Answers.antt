use Rattle.std.proofs.Common.{le-ltb, lt-ltb, inl, inr, arith}
use Rattle.numbers.specs.ComeLaws.{run-prefix}
use Rattle.numbers.specs.Keeping.{marked_come, keeping_settled, offset_of}
use Rattle.numbers.proofs.keeping.Keeping.mark.Goals as goal

pub returns-then-offset-le-PLACES : goal.returns-then-offset-le-PLACES
unfolding marked_come keeping_settled offset_of
returns-then-offset-le-PLACES c = rw (← c.ahead_of-offset.ensures, le-ltb _ _ c.if-offset-gt0.true, le-ltb _ _ c.if-offset-le-PLACES.true, c.after-self.ensures, c.shift_by.ensures, c.run_of-n.ensures.run, run-prefix)

pub returns-else-offset-gt0 : goal.returns-else-offset-gt0
unfolding marked_come keeping_settled offset_of
returns-else-offset-gt0 c =
    elim c.else-offset-gt0.either [
      | inl w ↦ rw (← c.ahead_of-offset.ensures, le-ltb _ _ w.0, lt-ltb _ _ w.1)
      | inr w ↦ rw (← c.ahead_of-offset.ensures, lt-ltb c.ahead_of-offset.result 1 (omega arith))
    ]
