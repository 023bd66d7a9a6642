use Rattle.std.proofs.Common.{rules}
use Rattle.octets.specs.BytesLaws.{u32-is, u32-past}
use Rattle.octets.proofs.bytes.get32.Goals as goal

pub returns-then-at-s : goal.returns-then-at-s
returns-then-at-s c = rw u32-is (search rules)

pub returns-else-at-s : goal.returns-else-at-s
returns-else-at-s c = u32-past _ _ c.if-at-s.false
