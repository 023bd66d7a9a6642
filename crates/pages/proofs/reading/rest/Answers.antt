use Rattle.pages.specs.Reading.{rest_of}
use Rattle.pages.proofs.reading.rest.Goals as goal

pub returns : goal.returns
unfolding rest_of
returns c = rw (← c.past-at.ensures, ← c.find-end.ensures, ← c.past-next.ensures) c.between.ensures
