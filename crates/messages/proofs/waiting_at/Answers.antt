use Rattle.std.proofs.Common.{◌-◌}
use Rattle.sending.specs.SendingTableLaws.{waiting-is}
use Rattle.tables.specs.OpenLaws.{by-law}
use Rattle.messages.proofs.waiting_at.Goals as goal

pub returns : goal.returns
returns c = by-law (waiting-is _ _ _ _) (rw c.chunk_at.ensures)
