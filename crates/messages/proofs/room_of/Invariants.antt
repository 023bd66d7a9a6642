use Rattle.std.proofs.Common.{◌-◌}
use Rattle.numbers.specs.Profile.{rail}
use Rattle.scans.specs.Scan.{Counting}
use Rattle.places.specs.Places.{has_status}
use Rattle.tables.specs.PlaceWords.{places_of}
use Rattle.messages.proofs.room_of.Given as goal

abbrev pub invariant-loop-i : goal.invariant-loop-i
invariant-loop-i l = Counting (has_status 0) (places_of rail l.t) 128 l.i l.free × Counting (has_status 1) (places_of rail l.t) 128 l.i l.waiting
