use mathlib.Core.Path.{sym, ◌∙◌}
use Rattle.scans.specs.Upto.{try-start, try-yes, try-no, try-end}
use Rattle.places.specs.SackBlocks.{is_blocked}
use Rattle.places.proofs.blocks.is_blocked.Goals as goal

pub loop-j-init : goal.loop-j-init
loop-j-init c = try-start _ _

pub returns-then-block_has : goal.returns-then-block_has
unfolding is_blocked
returns-then-block_has c = rw (← c.held-j-end.ensures.0) (try-yes c.loop-j.invariant c.loop-j-test.true (sym c.block_has.ensures ∙ c.if-block_has.true))

pub loop-j-preserved : goal.loop-j-preserved
loop-j-preserved c = try-no c.loop-j.invariant c.loop-j-test.true (sym c.block_has.ensures ∙ c.if-block_has.false)

pub returns : goal.returns
unfolding is_blocked
returns c = rw (← c.held-j-end.ensures.0) (try-end c.loop-j.invariant c.loop-j-test.false)
