use Rattle.std.proofs.Common.{length}
use Rattle.numbers.specs.Word.{FlagsGathering}
use Rattle.numbers.proofs.keeping.gathered.Given as goal

abbrev pub invariant-loop-i : goal.invariant-loop-i
invariant-loop-i l = FlagsGathering l.come 0 (length l.come) l.w l.i
