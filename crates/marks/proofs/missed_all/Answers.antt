use Prim.Native.Nat.{ℕ}
use lib.Dec.{eqb}
use mathlib.Core.Bool.{Bool}
use mathlib.Core.Path.{refl, sym, ap, ◌∙◌}
use borrow.Author.Tests.{eq-eqb, ne_eqb}
use Rattle.numbers.specs.Profile.{rail}
use Rattle.scans.specs.Upto.{larger, top_start, top-more, top-end}
use Rattle.scans.specs.Scan.{either, or_either, sum-start, sum_more, sum-end, ask-more, ask-end}
use Rattle.scans.specs.Upto.{max-larger}
use Rattle.places.specs.declared.place.Place.{Place}
use Rattle.places.specs.Places.{is_outstanding, flight_of, outstanding_offset, missed, reaches_three}
use Rattle.places.specs.PassLaws.{free-idle, free-light, free-last, free-missed, free-reaches, unmissed, unreached}
use Rattle.tables.specs.PlaceWords.{vacant}
use Rattle.tables.specs.PlaceWordsLaws.{places-long}
use Rattle.tables.specs.PlaceStates.{state-start, state-next, state-more, state-skip}
use Rattle.marks.specs.SkipLaws.{sum-skip, top-skip, ask-skip}
use Rattle.marks.specs.MarkingLaws.{missing-by}
use Rattle.marks.proofs.missed_all.Goals as goal

pub loop-i-init : goal.loop-i-init
loop-i-init c = (state-start _ _ _ _, record { long = places-long rail _; rest = refl }, sum-start _ _ _ 128 (places-long rail _), record { long = places-long rail _; rest = refl }, top_start _ _ 128 (places-long rail _))

pub loop-i-preserved-then-status_at-eq-FREE : goal.loop-i-preserved-then-status_at-eq-FREE
loop-i-preserved-then-status_at-eq-FREE c = let w = c.loop-i.invariant in let h = c.loop-i-test.true in let z = sym c.status_at.ensures ∙ c.if-status_at-eq-FREE.true in let y = ap (λ (p : Place). p.status) (sym (state-next w.0 h)) ∙ z in let m = free-missed _ y c.args.from c.args.limit in (state-skip w.0 h (eq-eqb _ _ z), ask-skip w.1 vacant h (free-reaches _ y _ _), sum-skip w.2 vacant h (ap flight_of m ∙ free-light _ y), ask-skip w.3 vacant h (ap is_outstanding m ∙ free-idle _ y), top-skip w.4 vacant h (ap (outstanding_offset c.args.from) m ∙ free-last _ y _))

pub loop-i-preserved-then-gets : goal.loop-i-preserved-then-gets
loop-i-preserved-then-gets c = let w = c.loop-i.invariant in let h = c.loop-i-test.true in let e = c.place_at-p.ensures in let f = e ∙ state-next w.0 h in let q = c.missed-q.ensures in let r = q ∙ ap (missed c.args.from c.args.limit) f in (state-more w.0 h (ap (λ (s : ℕ). eqb s 0) (sym c.status_at.ensures) ∙ ne_eqb _ _ c.if-status_at-eq-FREE.false) (q ∙ ap (missed c.args.from c.args.limit) e) c.put_state.ensures, ask-more w.1 vacant _ h (or_either c.loop-i.struck c.reaches-struck.result ∙ ap (λ (b : Bool). either c.loop-i.struck b) (c.reaches-struck.ensures ∙ ap (reaches_three c.args.from c.args.limit) f)), sum_more w.2 vacant _ h (c.flight-flight.ensures.0 ∙ ap flight_of r) c.flight-flight.ensures.1, ask-more w.3 vacant _ h (or_either c.loop-i.left c.is_outstanding-left.result ∙ ap (λ (b : Bool). either c.loop-i.left b) (c.is_outstanding-left.ensures ∙ ap is_outstanding r)), top-more w.4 vacant _ h (c.max-last.ensures ∙ max-larger c.loop-i.last c.last.result ∙ ap (λ (n : ℕ). larger c.loop-i.last n) (c.last.ensures ∙ ap (outstanding_offset c.args.from) r)))

pub loop-i-preserved : goal.loop-i-preserved
loop-i-preserved c = let w = c.loop-i.invariant in let h = c.loop-i-test.true in let e = c.place_at-p.ensures in let f = e ∙ state-next w.0 h in let q = sym (unmissed c.args.from c.args.limit c.place_at-p.result (sym c.gets.ensures ∙ c.if-gets.false)) in let r = q ∙ ap (missed c.args.from c.args.limit) f in (state-more w.0 h (ap (λ (s : ℕ). eqb s 0) (sym c.status_at.ensures) ∙ ne_eqb _ _ c.if-status_at-eq-FREE.false) (q ∙ ap (missed c.args.from c.args.limit) e) c.put_state-in-loop-i.ensures, ask-skip w.1 vacant h (ap (reaches_three c.args.from c.args.limit) (sym f) ∙ unreached c.args.from c.args.limit _ (sym c.gets.ensures ∙ c.if-gets.false)), sum_more w.2 vacant _ h (c.flight-flight-in-loop-i.ensures.0 ∙ ap flight_of r) c.flight-flight-in-loop-i.ensures.1, ask-more w.3 vacant _ h (or_either c.loop-i.left c.is_outstanding-left-in-loop-i.result ∙ ap (λ (b : Bool). either c.loop-i.left b) (c.is_outstanding-left-in-loop-i.ensures ∙ ap is_outstanding r)), top-more w.4 vacant _ h (c.max-last-in-loop-i.ensures ∙ max-larger c.loop-i.last c.last-in-loop-i.result ∙ ap (λ (n : ℕ). larger c.loop-i.last n) (c.last-in-loop-i.ensures ∙ ap (outstanding_offset c.args.from) r)))

pub returns-clause-value : goal.returns-clause-value
returns-clause-value c = let w = c.loop-i.invariant in let d = c.loop-i-test.false in missing-by _ _ _ (ask-end w.1 d) (sum-end w.2 d) (ask-end w.3 d) (top-end w.4 d)
