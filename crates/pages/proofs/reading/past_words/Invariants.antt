use Rattle.pages.specs.ReadingLaws.{WordsPassing}
use Rattle.pages.proofs.reading.past_words.Given as goal

abbrev pub invariant-loop-i : goal.invariant-loop-i
invariant-loop-i l = WordsPassing l.s l.i-end l.i l.left
