use native.Mathlib.Omega.{arith}
use Prim.Native.Nat.{ℕ}
use mathlib.Core.Bool.{Bool}
use mathlib.Core.Path.{refl, ap, ◌∙◌}
use Rattle.numbers.specs.Profile.{rail}
use Rattle.scans.specs.Upto.{larger, top_start, top-more, top-end}
use Rattle.scans.specs.Scan.{either, or_either, sum-start, sum_more, sum-end, ask-more, ask-end}
use Rattle.scans.specs.Upto.{max-larger}
use Rattle.places.specs.Places.{is_outstanding, flight_of, window_payload, outstanding_offset}
use Rattle.places.specs.PassLaws.{tallied-is}
use Rattle.tables.specs.OpenLaws.{by-law}
use Rattle.tables.specs.PlaceWords.{vacant}
use Rattle.tables.specs.PlaceWordsLaws.{places-long}
use Rattle.marks.proofs.tallied.Goals as goal

pub loop-i-init : goal.loop-i-init
loop-i-init c = (sum-start _ _ _ 128 (places-long rail _), sum-start _ _ _ 128 (places-long rail _), record { long = places-long rail _; rest = refl }, top_start _ _ 128 (places-long rail _))

pub loop-i-preserved : goal.loop-i-preserved
loop-i-preserved c = let inv = c.loop-i.invariant in let more = c.loop-i-test.true in let e = c.place_at-p.ensures in (sum_more inv.0 vacant _ more (c.flight-flight.ensures.0 ∙ ap flight_of e) c.flight-flight.ensures.1, sum_more inv.1 vacant _ more (c.payload-payload.ensures.0 ∙ ap window_payload e) c.payload-payload.ensures.1, ask-more inv.2 vacant _ more (or_either c.loop-i.left c.is_outstanding-left.result ∙ ap (λ (b : Bool). either c.loop-i.left b) (c.is_outstanding-left.ensures ∙ ap is_outstanding e)), top-more inv.3 vacant _ more (c.max-last.ensures ∙ max-larger c.loop-i.last c.last.result ∙ ap (λ (n : ℕ). larger c.loop-i.last n) (c.last.ensures ∙ ap (outstanding_offset c.args.from) e)))

pub returns : goal.returns
returns c = let inv = c.loop-i.invariant in let done = c.loop-i-test.false in (by-law (tallied-is _ _) (rw (sum-end inv.0 done, sum-end inv.1 done, ask-end inv.2 done, top-end inv.3 done)), omega arith, omega arith)
