use Rattle.path.specs.Path.{fresh_path}
use Rattle.path.proofs.path.Path.fresh.Goals as goal

pub returns : goal.returns
unfolding fresh_path
returns c = rw (c.fresh.ensures, c.fresh-2.ensures)
