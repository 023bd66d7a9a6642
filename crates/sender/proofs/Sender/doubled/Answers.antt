use Rattle.path.specs.Sizes.{rail_sizes}
use Rattle.sending.specs.SendingTableLaws.{doubled-is}
use Rattle.sender.proofs.Sender.doubled.Goals as goal

pub returns : goal.returns
returns c = rw (c.doubled-self.ensures, doubled-is rail_sizes _)
