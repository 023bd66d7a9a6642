use mathlib.Core.Path.{◌∙◌}
use Rattle.numbers.specs.Profile.{rail}
use Rattle.tables.specs.PlaceWordsLaws.{six-stores, place-put-within, place-put-past}
use Rattle.tables.proofs.place.put_place.Goals as goal

pub returns-then-i-lt-PLACES : goal.returns-then-i-lt-PLACES
returns-then-i-lt-PLACES c = rw (c.state_of.ensures, c.shape_of.ensures, c.from.ensures) (six-stores _ _ _ _ _ _ _ _ ∙ place-put-within rail _ c.args.i c.args.p c.if-i-lt-PLACES.true)

pub returns-else-i-lt-PLACES : goal.returns-else-i-lt-PLACES
returns-else-i-lt-PLACES c = place-put-past rail _ c.args.i c.args.p c.if-i-lt-PLACES.false
