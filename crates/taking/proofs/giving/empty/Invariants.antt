use Rattle.numbers.specs.Profile.{rail}
use Rattle.taking.specs.TakeWordsLaws.{Clearing}
use Rattle.taking.proofs.giving.empty.Given as goal

abbrev pub invariant-loop-place : goal.invariant-loop-place
invariant-loop-place l = Clearing rail l.initial.words l.list l.words l.place-index
