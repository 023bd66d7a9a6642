use Rattle.pages.specs.Reading.{deed_of}
use Rattle.pages.proofs.reading.deed.Goals as goal

pub returns : goal.returns
unfolding deed_of
returns c = rw (← c.find.ensures) c.between.ensures
