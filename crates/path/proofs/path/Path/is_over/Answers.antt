use mathlib.Core.Path.{refl}
use Rattle.path.specs.Path.{is_over}
use Rattle.path.proofs.path.Path.is_over.Goals as goal

pub returns : goal.returns
unfolding is_over
returns c = refl
