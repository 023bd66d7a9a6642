use Rattle.path.specs.Path.{sampled_by}
use Rattle.path.proofs.path.Path.sampled.Goals as goal

pub returns : goal.returns
unfolding sampled_by
returns c = rw c.sampled-self.ensures
