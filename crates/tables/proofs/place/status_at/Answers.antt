use Rattle.std.proofs.Common.{ap}
use Rattle.numbers.specs.Profile.{rail}
use Rattle.places.specs.declared.place.Place.{Place}
use Rattle.tables.specs.PlaceWordsLaws.{status-in, place-past}
use Rattle.tables.proofs.place.status_at.Goals as goal

pub returns-then-i-lt-PLACES : goal.returns-then-i-lt-PLACES
returns-then-i-lt-PLACES c = status-in rail _ c.args.i c.if-i-lt-PLACES.true

pub returns-else-i-lt-PLACES : goal.returns-else-i-lt-PLACES
returns-else-i-lt-PLACES c = ap (λ (p : Place). p.status) (place-past rail _ c.args.i c.if-i-lt-PLACES.false)
