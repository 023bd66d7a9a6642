use mathlib.Core.Path.{ap}
use Rattle.places.specs.declared.all.Tally.{Tally}
use Rattle.sending.specs.SendingTableLaws.{outstanding-is}
use Rattle.tables.specs.OpenLaws.{by-law}
use Rattle.acks.proofs.has_outstanding.Goals as goal

pub returns : goal.returns
returns c = by-law (outstanding-is _) (ap (λ (w : Tally). w.left) c.tallied.ensures.0)
