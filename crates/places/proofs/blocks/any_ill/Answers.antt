use mathlib.Core.Path.{sym, ◌∙◌}
use Rattle.scans.specs.Upto.{try-start, try-yes, try-no, try-end}
use Rattle.places.specs.SackBlocks.{any_ill}
use Rattle.places.proofs.blocks.any_ill.Goals as goal

pub loop-j-init : goal.loop-j-init
loop-j-init c = try-start _ _

pub returns-then-is_ill : goal.returns-then-is_ill
unfolding any_ill
returns-then-is_ill c = rw (← c.held-j-end.ensures.0) (try-yes c.loop-j.invariant c.loop-j-test.true (sym c.is_ill.ensures ∙ c.if-is_ill.true))

pub loop-j-preserved : goal.loop-j-preserved
loop-j-preserved c = try-no c.loop-j.invariant c.loop-j-test.true (sym c.is_ill.ensures ∙ c.if-is_ill.false)

pub returns : goal.returns
unfolding any_ill
returns c = rw (← c.held-j-end.ensures.0) (try-end c.loop-j.invariant c.loop-j-test.false)
