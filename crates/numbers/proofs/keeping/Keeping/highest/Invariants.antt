use Rattle.numbers.specs.ComeLaws.{Lowered}
use Rattle.numbers.proofs.keeping.Keeping.highest.Given as goal

abbrev pub invariant-loop-i : goal.invariant-loop-i
invariant-loop-i l = Lowered l.self.come 128 l.i
