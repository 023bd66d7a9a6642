use Rattle.pages.specs.Reading.{line_at}
use Rattle.pages.proofs.reading.line_at.Goals as goal

pub returns : goal.returns
unfolding line_at
returns c = rw (← c.find.ensures) c.between.ensures
