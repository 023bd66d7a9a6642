use mathlib.Core.Path.{◌∙◌}
use Rattle.numbers.specs.Profile.{rail}
use Rattle.tables.specs.HeldWordsLaws.{four-stores, held-put-within, held-put-past}
use Rattle.tables.proofs.held.put_held.Goals as goal

pub returns-then-i-lt-PLACES : goal.returns-then-i-lt-PLACES
returns-then-i-lt-PLACES c = rw (c.last_of.ensures, c.from.ensures) (four-stores _ _ _ _ _ _ ∙ held-put-within rail _ c.args.i c.args.h c.if-i-lt-PLACES.true)

pub returns-else-i-lt-PLACES : goal.returns-else-i-lt-PLACES
returns-else-i-lt-PLACES c = held-put-past rail _ c.args.i c.args.h c.if-i-lt-PLACES.false
