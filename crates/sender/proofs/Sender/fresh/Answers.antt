use Rattle.path.specs.Sizes.{sizes_of}
use Rattle.numbers.specs.Profile.{rail}
use Rattle.sending.specs.SendingTableLaws.{fresh-sending-is}
use Rattle.sender.proofs.Sender.fresh.Goals as goal

pub returns : goal.returns
returns c = rw (c.fresh.ensures, c.after.ensures, fresh-sending-is (sizes_of _) rail _ _ _)
