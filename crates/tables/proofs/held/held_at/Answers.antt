use mathlib.Core.Path.{◌∙◌}
use Rattle.numbers.specs.Profile.{rail}
use Rattle.tables.specs.HeldWordsLaws.{held_in, held-past}
use Rattle.tables.proofs.held.held_at.Goals as goal

pub returns-then-i-lt-PLACES : goal.returns-then-i-lt-PLACES
returns-then-i-lt-PLACES c = c.decode.ensures ∙ held_in rail _ c.args.i c.if-i-lt-PLACES.true

pub returns-else-i-lt-PLACES : goal.returns-else-i-lt-PLACES
returns-else-i-lt-PLACES c = c.none.ensures ∙ held-past rail _ c.args.i c.if-i-lt-PLACES.false
