use Rattle.numbers.specs.Profile.{rail}
use Rattle.scans.specs.Scan.{Counting}
use Rattle.places.specs.Places.{has_status}
use Rattle.tables.specs.PlaceWords.{places_of}
use Rattle.marks.proofs.having.Given as goal

abbrev pub invariant-loop-i : goal.invariant-loop-i
invariant-loop-i l = Counting (has_status l.status) (places_of rail l.t) 128 l.i l.n
