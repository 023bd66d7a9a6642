use Rattle.numbers.specs.Profile.{rail}
use Rattle.scans.specs.Upto.{Topping}
use Rattle.scans.specs.Scan.{Summing}
use Rattle.places.specs.Places.{has_status}
use Rattle.places.specs.Sack.{place_settled, newly_bytes, newly_offset}
use Rattle.tables.specs.PlaceWords.{places_of}
use Rattle.tables.specs.PlaceStates.{Stating}
use Rattle.marks.proofs.taken_in.Given as goal

abbrev pub invariant-loop-i : goal.invariant-loop-i
invariant-loop-i l = Stating rail (has_status 0) (place_settled l.k) l.initial.t l.i l.t × Summing (λ p. newly_bytes p (place_settled l.k p)) 65551 (places_of rail l.initial.t) 128 l.i l.newly × Topping (λ p. newly_offset l.from p (place_settled l.k p)) (places_of rail l.initial.t) 128 l.i l.highest
