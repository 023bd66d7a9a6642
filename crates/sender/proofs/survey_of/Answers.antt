use borrow.Author.Rules.{rules}
use mathlib.Core.Bool.{true}
use mathlib.Core.Path.{refl, sym, ap, ◌∙◌}
use native.Mathlib.Omega.{arith}
use mir.Facts.{Fits-le, Fits-lit}
use Rattle.numbers.specs.Profile.{rail}
use Rattle.scans.specs.Scan.{either, bit-within}
use Rattle.places.specs.declared.place.Place.{Place}
use Rattle.sending.specs.SendingBounds.{is_place_odd, spot_of}
use Rattle.sending.specs.SurveyLaws.{survey-free, survey-end}
use Rattle.sender.specs.BlankLaws.{blank-eight, survey-blank, survey-first, survey-flying, survey-apart, survey-waiting-one}
use Rattle.sender.proofs.survey_of.Goals as goal

pub loop-i-init : goal.loop-i-init
loop-i-init c = survey-first rail c.args.t.now c.args.acked c.args.oldest _ c.args.start refl c.requires.1 c.requires.0

pub overflow_add-v : goal.overflow_add-v
overflow_add-v c = search (rules, c.loop-i.invariant.flight.below, c.loop-i.invariant.flight.within, c.loop-i-test.true, c.weight.ensures.1)

pub overflow_add-v-then-p-eq-FLYING : goal.overflow_add-v-then-p-eq-FLYING
overflow_add-v-then-p-eq-FLYING c = Fits-le (bit-within c.loop-i.invariant.sent true c.loop-i-test.true) (Fits-lit tt)

pub loop-i-preserved-then-p-eq-FLYING : goal.loop-i-preserved-then-p-eq-FLYING
loop-i-preserved-then-p-eq-FLYING c = survey-flying c.loop-i.invariant c.loop-i-test.true c.place_at-p.result c.place_at-p.ensures c.or_odd.ensures c.if-p-eq-FLYING.true c.weight.ensures.0 c.weight.ensures.1 (c.spot_of-j.ensures.0 ∙ ap (spot_of rail) c.offset.ensures)

pub loop-i-preserved-then-are_blank : goal.loop-i-preserved-then-are_blank
loop-i-preserved-then-are_blank c = let e = blank-eight rail c.args.t.now c.loop-i.i c.are_blank.ensures c.if-are_blank.true in survey-blank rail c.args.t.now 8 c.loop-i.invariant (omega (arith, e.0)) e.1

pub loop-i-preserved-then-p-eq-FREE : goal.loop-i-preserved-then-p-eq-FREE
loop-i-preserved-then-p-eq-FREE c = let e = c.place_at-p.ensures in survey-free c.loop-i.invariant c.loop-i-test.true (ap (λ (p : Place). p.status) (sym e) ∙ c.if-p-eq-FREE.true) (c.or_odd-then-p-eq-FREE.ensures ∙ ap (λ (p : Place). either c.loop-i.v.odd (is_place_odd rail p)) e)

pub overflow_add-v-then-p-eq-WAITING : goal.overflow_add-v-then-p-eq-WAITING
overflow_add-v-then-p-eq-WAITING c = Fits-le (bit-within c.loop-i.invariant.waiting true c.loop-i-test.true) (Fits-lit tt)

pub loop-i-preserved-then-p-eq-WAITING : goal.loop-i-preserved-then-p-eq-WAITING
loop-i-preserved-then-p-eq-WAITING c = survey-waiting-one c.loop-i.invariant c.loop-i-test.true c.place_at-p.result c.place_at-p.ensures c.or_odd-then-p-eq-WAITING.ensures c.if-p-eq-WAITING.true (c.spot_of-k.ensures.0 ∙ ap (spot_of rail) c.key_of.ensures)

pub overflow_add-v-else-p-eq-WAITING : goal.overflow_add-v-else-p-eq-WAITING
overflow_add-v-else-p-eq-WAITING c = Fits-le (bit-within c.loop-i.invariant.sent c.is_sent.result c.loop-i-test.true) (Fits-lit tt)

pub loop-i-preserved : goal.loop-i-preserved
loop-i-preserved c = survey-apart c.loop-i.invariant c.loop-i-test.true c.place_at-p.result c.place_at-p.ensures c.or_odd-else-p-eq-WAITING.ensures c.if-p-eq-FLYING.false c.if-p-eq-WAITING.false c.is_sent.ensures (c.spot_of-j-else-p-eq-WAITING.ensures.0 ∙ ap (spot_of rail) c.key_of-else-p-eq-WAITING.ensures)

pub returns : goal.returns
returns c = survey-end c.loop-i.invariant c.loop-i-test.false
