use Rattle.numbers.specs.Keeping.{offset_of}
use Rattle.numbers.proofs.keeping.Keeping.offset.Goals as goal

pub returns : goal.returns
unfolding offset_of
returns c = c.ahead_of.ensures
