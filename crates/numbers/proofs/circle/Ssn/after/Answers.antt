use Rattle.numbers.specs.Numbering.{on}
use Rattle.numbers.proofs.circle.Ssn.after.Goals as goal

pub returns : goal.returns
unfolding on
returns c = cc
