use Rattle.numbers.specs.Profile.{rail}
use Rattle.scans.specs.Scan.{Summing}
use Rattle.places.specs.Places.{flight_of, marked_for_resend}
use Rattle.tables.specs.PlaceWords.{places_of}
use Rattle.tables.specs.PlaceStates.{Stating}
use Rattle.marks.specs.MarkingLaws.{never}
use Rattle.marks.proofs.marked_all.Given as goal

abbrev pub invariant-loop-i : goal.invariant-loop-i
invariant-loop-i l = Stating rail never marked_for_resend l.initial.t l.i l.t × Summing (λ p. flight_of (marked_for_resend p)) 65551 (places_of rail l.initial.t) 128 l.i l.flight
