use mathlib.Core.Bool.{not}
use mathlib.Core.Path.{refl, sym, ap, ◌∙◌}
use Rattle.numbers.specs.Profile.{rail}
use Rattle.scans.specs.Scan.{find-yes, find-no, find-end}
use Rattle.holding.specs.Held.{no_held}
use Rattle.tables.specs.HeldWordsLaws.{held-long}
use Rattle.reception.proofs.arrival.first_free.Goals as goal

pub loop-place-init : goal.loop-place-init
loop-place-init c = record { long = held-long rail _; rest = refl }

pub returns-then-not-is_used : goal.returns-then-not-is_used
returns-then-not-is_used c = find-yes c.loop-place.invariant no_held c.loop-place-test.true (ap not (sym c.is_used.ensures ∙ c.if-not-is_used.true))

pub loop-place-preserved : goal.loop-place-preserved
loop-place-preserved c = find-no c.loop-place.invariant no_held c.loop-place-test.true (ap not (sym c.is_used.ensures ∙ c.if-not-is_used.false))

pub returns : goal.returns
returns c = find-end c.loop-place.invariant c.loop-place-test.false
