use Rattle.numbers.specs.Numbering.{on, before}
use Rattle.numbers.specs.Keeping.{fresh_keeping}
use Rattle.numbers.proofs.keeping.Keeping.fresh.Goals as goal

pub returns : goal.returns
unfolding fresh_keeping on before
returns c = rw c.after.ensures
