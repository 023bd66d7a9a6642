use Rattle.path.specs.Path.{backed_off}
use Rattle.path.proofs.path.Path.doubled.Goals as goal

pub returns : goal.returns
unfolding backed_off
returns c = rw c.doubled-self.ensures
