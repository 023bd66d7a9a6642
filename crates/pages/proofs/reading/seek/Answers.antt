use Rattle.pages.specs.ReadingLaws.{search-start}
use Rattle.pages.proofs.reading.seek.Goals as goal

pub loop-i-init : goal.loop-i-init
loop-i-init c = search-start _ _ _ _
