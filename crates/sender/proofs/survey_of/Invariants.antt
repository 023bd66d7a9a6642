use Prim.Native.Nat.{◌-◌}
use Rattle.numbers.specs.Profile.{rail}
use Rattle.sending.specs.SurveyLaws.{Surveying}
use Rattle.tables.specs.PlaceWords.{places_of}
use Rattle.sender.proofs.survey_of.Given as goal

abbrev pub invariant-loop-i : goal.invariant-loop-i
invariant-loop-i l = Surveying rail l.acked l.oldest (places_of rail l.t) l.i l.v.flight l.v.odd l.v.sent l.v.waiting l.v.seen_sent l.v.seen_waiting

abbrev pub decreases-loop-i : goal.decreases-loop-i
decreases-loop-i l = 128 - l.i
