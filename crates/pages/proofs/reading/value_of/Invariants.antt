use Rattle.pages.specs.ReadingLaws.{Valuing}
use Rattle.pages.proofs.reading.value_of.Given as goal

abbrev pub invariant-loop-b : goal.invariant-loop-b
invariant-loop-b l = Valuing l.hex l.s 0 l.n l.b-index
