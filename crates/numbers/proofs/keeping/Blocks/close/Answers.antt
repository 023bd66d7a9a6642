use Rattle.std.proofs.Common.{refl}
use Rattle.numbers.specs.Blocks.{closed}
use Rattle.numbers.proofs.keeping.Blocks.close.Goals as goal

pub returns : goal.returns
unfolding closed
returns c = refl
