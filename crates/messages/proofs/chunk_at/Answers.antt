use Rattle.std.proofs.Common.{◌-◌}
use Rattle.sending.specs.SendingTableLaws.{chunk-is}
use Rattle.tables.specs.OpenLaws.{by-law}
use Rattle.messages.proofs.chunk_at.Goals as goal

pub returns : goal.returns
returns c = by-law (chunk-is _ _ _ _) (rw c.part_len.ensures)
