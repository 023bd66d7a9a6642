use Rattle.numbers.specs.Profile.{rail}
use Rattle.scans.specs.Scan.{count-start}
use Rattle.tables.specs.HeldWordsLaws.{held-long}
use Rattle.taking.proofs.choosing.free_places.Goals as goal

pub loop-place-init : goal.loop-place-init
loop-place-init c = count-start _ _ 128 (held-long rail _)
