use Rattle.std.proofs.Common.{◌<◌}
use Rattle.scans.specs.Scan.{Folding}
use Rattle.numbers.specs.Profile.{rail}
use Rattle.sending.specs.Choose.{better_place}
use Rattle.tables.specs.PlaceWords.{places_of}
use Rattle.choice.proofs.best_of.Given as goal

abbrev pub invariant-loop-i : goal.invariant-loop-i
invariant-loop-i l = Folding (better_place l.acked l.oldest) l.initial.b (places_of rail l.t) 128 l.i l.b × (l.b.place < 128)
