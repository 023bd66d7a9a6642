use Rattle.numbers.specs.Profile.{rail}
use Rattle.path.specs.Sizes.{sizes_of}
use Rattle.sender.specs.SeenLaws.{fresh-sending-shown}
use Rattle.outgoing.proofs.Outgoing.fresh.Goals as goal

pub returns : goal.returns
returns c = (rw c.fresh.ensures, rw c.fresh.ensures (fresh-sending-shown (sizes_of c.args.mode) rail _ _ c.args.mode 1024 128))
