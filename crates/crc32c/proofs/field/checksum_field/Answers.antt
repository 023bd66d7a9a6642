use Rattle.std.proofs.Common.{lt-ltb, le-ltb, rules}
use Rattle.crc32c.specs.Field.{field_of}
use Rattle.crc32c.proofs.field.checksum_field.Goals as goal

pub returns-then-s-lt12 : goal.returns-then-s-lt12
unfolding field_of
returns-then-s-lt12 c = rw (lt-ltb _ _ c.if-s-lt12.true)

pub returns-else-s-lt12 : goal.returns-else-s-lt12
unfolding field_of
returns-else-s-lt12 c = rw (le-ltb _ _ c.if-s-lt12.false) (search rules)
