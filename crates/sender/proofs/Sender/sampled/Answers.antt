use Rattle.path.specs.Sizes.{rail_sizes}
use Rattle.sending.specs.SendingTableLaws.{sampled-is}
use Rattle.sender.proofs.Sender.sampled.Goals as goal

pub returns : goal.returns
returns c = rw (c.sampled-self.ensures, sampled-is rail_sizes _ _)
