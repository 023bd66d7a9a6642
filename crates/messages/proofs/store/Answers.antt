use Rattle.std.proofs.Common.{◌-◌}
use Rattle.messages.proofs.store.Goals as goal

pub returns : goal.returns
returns c = rw (c.put_all.ensures, c.part-part.ensures)
