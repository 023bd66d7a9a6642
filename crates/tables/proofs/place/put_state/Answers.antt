use Rattle.numbers.specs.Profile.{rail}
use Rattle.tables.specs.PlaceWordsLaws.{state-within, state-past}
use Rattle.tables.proofs.place.put_state.Goals as goal

pub returns-then-i-lt-PLACES : goal.returns-then-i-lt-PLACES
returns-then-i-lt-PLACES c = rw c.state_of.ensures (state-within rail _ c.args.i c.args.p c.if-i-lt-PLACES.true)

pub returns-else-i-lt-PLACES : goal.returns-else-i-lt-PLACES
returns-else-i-lt-PLACES c = state-past rail _ c.args.i c.args.p c.if-i-lt-PLACES.false
