use Rattle.pages.specs.ReadingLaws.{Searching}
use Rattle.pages.proofs.reading.seek.Given as goal

abbrev pub invariant-loop-i : goal.invariant-loop-i
invariant-loop-i l = Searching l.is l.s l.from l.c l.i
