use Rattle.std.proofs.Common.{arith}
use Rattle.choice.proofs.flown.Goals as goal

pub returns : goal.returns
returns c = (rw c.weight.ensures.0, omega (arith, c.weight.ensures.1, c.struct_known-1.given))
