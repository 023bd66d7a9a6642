use Rattle.numbers.specs.Profile.{rail}
use Rattle.tables.specs.OpenLaws.{by-law}
use Rattle.reception.specs.ReceptionLaws.{sacked-is}
use Rattle.reception.proofs.acknowledging.sack.Goals as goal

pub returns : goal.returns
returns c = by-law (sacked-is rail _ _) (rw (c.told.ensures, c.blocks-blocks.ensures, c.free_places-free.ensures.0))
