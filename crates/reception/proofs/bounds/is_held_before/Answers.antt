use mathlib.Core.Path.{refl, sym, ap, ◌∙◌}
use native.Mathlib.Omega.{arith}
use lib.Seq.{get_or-take, length-take-le}
use Rattle.numbers.specs.Profile.{rail}
use Rattle.scans.specs.Scan.{seek-yes, seek-no, seek-end}
use Rattle.holding.specs.Held.{no_held, holds}
use Rattle.tables.specs.HeldWordsLaws.{held-long}
use Rattle.reception.proofs.bounds.is_held_before.Goals as goal

pub loop-before-init : goal.loop-before-init
loop-before-init c = record { long = length-take-le _ _ (omega (arith, c.requires, held-long rail c.args.words.now)); rest = refl }

pub returns-then-is_of : goal.returns-then-is_of
returns-then-is_of c = seek-yes c.loop-before.invariant no_held c.loop-before-test.true (ap (holds _) (get_or-take _ _ _ _ c.loop-before-test.true) ∙ (sym c.is_of.ensures ∙ c.if-is_of.true))

pub loop-before-preserved : goal.loop-before-preserved
loop-before-preserved c = seek-no c.loop-before.invariant no_held c.loop-before-test.true (ap (holds _) (get_or-take _ _ _ _ c.loop-before-test.true) ∙ (sym c.is_of.ensures ∙ c.if-is_of.false))

pub returns : goal.returns
returns c = seek-end c.loop-before.invariant c.loop-before-test.false
