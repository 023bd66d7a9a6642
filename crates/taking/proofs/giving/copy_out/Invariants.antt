use Rattle.numbers.specs.Profile.{rail}
use Rattle.tables.specs.HeldWords.{held_of}
use Rattle.taking.specs.TakeWordsLaws.{Copying}
use Rattle.taking.proofs.giving.copy_out.Given as goal

abbrev pub invariant-loop-place : goal.invariant-loop-place
invariant-loop-place l = Copying rail l.area (held_of rail l.words) l.initial.out l.list l.out l.at l.place-index
