use mathlib.Core.Path.{◌∙◌}
use Rattle.numbers.specs.Profile.{rail}
use Rattle.tables.specs.PlaceWordsLaws.{place-in, place-past, decoded-none}
use Rattle.tables.proofs.place.place_at.Goals as goal

pub returns-then-i-lt-PLACES : goal.returns-then-i-lt-PLACES
returns-then-i-lt-PLACES c = c.decode.ensures ∙ place-in rail _ c.args.i c.if-i-lt-PLACES.true

pub returns-else-i-lt-PLACES : goal.returns-else-i-lt-PLACES
returns-else-i-lt-PLACES c = c.decode-else-i-lt-PLACES.ensures ∙ (decoded-none ∙ place-past rail _ c.args.i c.if-i-lt-PLACES.false)
