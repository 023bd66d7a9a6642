use mathlib.Core.Path.{refl, sym, ◌∙◌}
use Rattle.numbers.specs.Profile.{rail}
use Rattle.scans.specs.Scan.{find-yes, find-no, find-end}
use Rattle.holding.specs.Held.{no_held}
use Rattle.tables.specs.HeldWordsLaws.{held-long}
use Rattle.taking.proofs.choosing.place_on.Goals as goal

pub loop-place-init : goal.loop-place-init
loop-place-init c = record { long = held-long rail _; rest = refl }

pub returns-then-goes_on_at : goal.returns-then-goes_on_at
returns-then-goes_on_at c = find-yes c.loop-place.invariant no_held c.loop-place-test.true (sym c.goes_on_at.ensures ∙ c.if-goes_on_at.true)

pub loop-place-preserved : goal.loop-place-preserved
loop-place-preserved c = find-no c.loop-place.invariant no_held c.loop-place-test.true (sym c.goes_on_at.ensures ∙ c.if-goes_on_at.false)

pub returns : goal.returns
returns c = find-end c.loop-place.invariant c.loop-place-test.false
