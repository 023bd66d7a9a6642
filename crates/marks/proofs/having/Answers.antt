use Rattle.numbers.specs.Profile.{rail}
use Rattle.scans.specs.Scan.{count-start}
use Rattle.tables.specs.PlaceWordsLaws.{places-long}
use Rattle.marks.proofs.having.Goals as goal

pub loop-i-init : goal.loop-i-init
loop-i-init c = count-start _ _ 128 (places-long rail _)
