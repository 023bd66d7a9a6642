use Rattle.places.specs.PassLaws.{empty-is}
use Rattle.tables.specs.OpenLaws.{by-law}
use Rattle.marks.proofs.is_empty.Goals as goal

pub returns : goal.returns
returns c = by-law (empty-is _) (rw c.having.ensures.0)
