use Rattle.pages.specs.Reading.{first_of}
use Rattle.pages.proofs.reading.first.Goals as goal

pub returns : goal.returns
unfolding first_of
returns c = rw (← c.past-at.ensures, ← c.find-end.ensures) c.between.ensures
