use borrow.Author.Tests.{lt-ltb, le-ltb}
use Rattle.crc32c.specs.Crc.{packet_crc}
use Rattle.crc32c.proofs.checksum.packet_crc.Goals as goal

pub returns-then-s-lt12 : goal.returns-then-s-lt12
unfolding packet_crc
returns-then-s-lt12 c = rw (lt-ltb _ _ c.if-s-lt12.true) c.crc32c.ensures

pub returns-else-s-lt12 : goal.returns-else-s-lt12
unfolding packet_crc
returns-else-s-lt12 c = rw (le-ltb _ _ c.if-s-lt12.false) c.packet_with.ensures
