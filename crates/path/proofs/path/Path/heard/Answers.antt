use mathlib.Core.Path.{refl}
use Rattle.path.specs.Path.{path_heard}
use Rattle.path.proofs.path.Path.heard.Goals as goal

pub returns : goal.returns
unfolding path_heard
returns c = refl
