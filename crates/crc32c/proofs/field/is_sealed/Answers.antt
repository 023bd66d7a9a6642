use Rattle.crc32c.specs.Field.{sealed}
use Rattle.crc32c.proofs.field.is_sealed.Goals as goal

pub returns : goal.returns
unfolding sealed
returns c = rw (c.packet_crc.ensures, c.checksum_field.ensures)
