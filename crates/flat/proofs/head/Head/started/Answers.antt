use Prim.Native.Nat.{◌^◌}
use Rattle.numbers.specs.Numbering.{ring}
use Rattle.numbers.specs.Profile.{rail}
use Rattle.delivery.specs.ReceivingTableLaws.{fresh-receiving-is}
use Rattle.flat.proofs.head.Head.started.Goals as goal

pub returns : goal.returns
returns c = rw (c.fresh-2.ensures, c.fresh.ensures, fresh-receiving-is (ring (2 ^ 32)) rail _)
