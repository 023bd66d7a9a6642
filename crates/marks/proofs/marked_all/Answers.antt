use mathlib.Core.Path.{refl, ap, ◌∙◌}
use Rattle.numbers.specs.Profile.{rail}
use Rattle.scans.specs.Scan.{sum-start, sum_more, sum-end}
use Rattle.places.specs.Places.{flight_of, marked_for_resend}
use Rattle.places.specs.PassLaws.{total-over}
use Rattle.tables.specs.PlaceWords.{places_of, vacant}
use Rattle.tables.specs.PlaceWordsLaws.{places-long}
use Rattle.tables.specs.PlaceStates.{state-start, state-next, state-more}
use Rattle.marks.proofs.marked_all.Goals as goal

pub loop-i-init : goal.loop-i-init
loop-i-init c = (state-start _ _ _ _, sum-start _ _ _ 128 (places-long rail _))

pub loop-i-preserved : goal.loop-i-preserved
loop-i-preserved c = let w = c.loop-i.invariant in let h = c.loop-i-test.true in let e = c.place_at.ensures in let q = c.marked-q.ensures in (state-more w.0 h refl (q ∙ ap marked_for_resend e) c.put_state.ensures, sum_more w.1 vacant _ h (c.flight-flight.ensures.0 ∙ ap flight_of (q ∙ ap marked_for_resend (e ∙ state-next w.0 h))) c.flight-flight.ensures.1)

pub returns-clause-value : goal.returns-clause-value
returns-clause-value c = sum-end c.loop-i.invariant.1 c.loop-i-test.false ∙ total-over marked_for_resend flight_of (places_of rail c.args.t.now)
