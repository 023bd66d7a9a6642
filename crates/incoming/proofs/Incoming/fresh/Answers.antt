use Prim.Native.Nat.{◌^◌}
use Rattle.numbers.specs.Numbering.{ring}
use Rattle.numbers.specs.Profile.{rail}
use Rattle.reception.specs.ReceptionLaws.{fresh-receiving-shown}
use Rattle.incoming.proofs.Incoming.fresh.Goals as goal

pub returns : goal.returns
returns c = (rw c.fresh.ensures, rw c.fresh.ensures (fresh-receiving-shown (ring (2 ^ 32)) rail _ 512 128))
