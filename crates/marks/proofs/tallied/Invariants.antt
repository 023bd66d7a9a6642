use Rattle.numbers.specs.Profile.{rail}
use Rattle.scans.specs.Upto.{Topping}
use Rattle.scans.specs.Scan.{Summing, Asking}
use Rattle.places.specs.Places.{is_outstanding, flight_of, window_payload, outstanding_offset}
use Rattle.tables.specs.PlaceWords.{places_of}
use Rattle.marks.proofs.tallied.Given as goal

abbrev pub invariant-loop-i : goal.invariant-loop-i
invariant-loop-i l = Summing flight_of 65551 (places_of rail l.t) 128 l.i l.flight × Summing window_payload 65535 (places_of rail l.t) 128 l.i l.payload × Asking is_outstanding (places_of rail l.t) 128 l.i l.left × Topping (outstanding_offset l.from) (places_of rail l.t) 128 l.i l.last
