use Rattle.std.proofs.Common.{lt-ltb, le-ltb}
use Rattle.octets.specs.BytesLaws.{part-is}
use Rattle.parameters.specs.Parameter.{parameter_at}
use Rattle.parameters.proofs.parameter.parameter_at.Goals as goal

pub returns-then-b-at : goal.returns-then-b-at
unfolding parameter_at
returns-then-b-at c = rw (le-ltb _ _ c.if-b-at.true)

pub returns : goal.returns
unfolding parameter_at
returns c = rw (lt-ltb _ _ c.if-b-at.false, c.size.ensures.0, c.end.ensures.0, c.treatment_of.ensures, c.get16-kind.ensures, part-is _ _)
