use Rattle.std.proofs.Common.{◌≡◌, length}
use Rattle.pages.specs.ReadingLaws.{Spelled}
use Rattle.pages.proofs.reading.spell.Given as goal

abbrev pub invariant-loop-c : goal.invariant-loop-c
invariant-loop-c l = Spelled l.s l.initial.out l.at l.out l.n l.c-index × (length l.out ≡ length l.initial.out)
