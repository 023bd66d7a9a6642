use Rattle.std.proofs.Common.{refl}
use Rattle.numbers.specs.Keeping.{keeping_told}
use Rattle.numbers.proofs.keeping.Keeping.told.Goals as goal

pub returns : goal.returns
unfolding keeping_told
returns c = refl
