use Rattle.pages.specs.Reading.{should_of}
use Rattle.pages.proofs.reading.should.Goals as goal

pub returns : goal.returns
unfolding should_of
returns c = rw (← c.find.ensures, ← c.plus.ensures) c.between.ensures
