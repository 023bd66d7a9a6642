use Rattle.numbers.specs.Profile.{rail}
use Rattle.scans.specs.Upto.{Topping}
use Rattle.scans.specs.Scan.{Summing, Asking}
use Rattle.places.specs.Places.{has_status, is_outstanding, flight_of, outstanding_offset, missed, reaches_three}
use Rattle.tables.specs.PlaceWords.{places_of}
use Rattle.tables.specs.PlaceStates.{Stating}
use Rattle.marks.proofs.missed_all.Given as goal

abbrev pub invariant-loop-i : goal.invariant-loop-i
invariant-loop-i l = Stating rail (has_status 0) (missed l.from l.limit) l.initial.t l.i l.t × Asking (reaches_three l.from l.limit) (places_of rail l.initial.t) 128 l.i l.struck × Summing (λ p. flight_of (missed l.from l.limit p)) 65551 (places_of rail l.initial.t) 128 l.i l.flight × Asking (λ p. is_outstanding (missed l.from l.limit p)) (places_of rail l.initial.t) 128 l.i l.left × Topping (λ p. outstanding_offset l.from (missed l.from l.limit p)) (places_of rail l.initial.t) 128 l.i l.last
