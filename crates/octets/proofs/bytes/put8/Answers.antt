use mathlib.Core.Path.{refl}
use Rattle.octets.specs.Bytes.{laid}
use Rattle.octets.specs.BytesLaws.{laid_out}
use Rattle.octets.proofs.bytes.put8.Goals as goal

pub returns-then-at-out : goal.returns-then-at-out
unfolding laid
returns-then-at-out c = refl

pub returns-else-at-out : goal.returns-else-at-out
returns-else-at-out c = laid_out _ _ _ c.if-at-out.false
