use Rattle.std.proofs.Common.{Bool, List}
use Rattle.numbers.specs.Word.{flags_of, joined_word, Reading}
use Rattle.numbers.specs.SweepLaws.{Sweeping}
use Rattle.numbers.proofs.keeping.Keeping.blocks.Given as goal

abbrev pub invariant-loop-i : goal.invariant-loop-i
invariant-loop-i l = let xs : List Bool = flags_of 128 (joined_word 64 l.initial.near l.initial.far) in Sweeping xs 128 l.blocks l.row l.i × Reading xs 128 l.near l.far l.i
