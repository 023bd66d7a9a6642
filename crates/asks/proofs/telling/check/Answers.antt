use borrow.Author.Tests.{eq-eqb, ne_eqb}
use Rattle.calls.specs.Telling.{stale_refusal}
use Rattle.asks.proofs.telling.check.Goals as goal
use Rattle.asks.proofs.telling.check.Goals.{then-lacks_port-via-then-lacks_port, then-lacks_port-via-else-lacks_port+then-tag-eq0}

pub returns-then-lacks_port : goal.returns-then-lacks_port
unfolding stale_refusal
returns-then-lacks_port c =
    elim c.then-lacks_port.branch [
      | then-lacks_port-via-then-lacks_port w ↦ rw (← c.lacks_port.ensures, w.if-lacks_port.true)
      | then-lacks_port-via-else-lacks_port+then-tag-eq0 w ↦ rw (← c.lacks_port.ensures, w.if-lacks_port.false, eq-eqb _ _ w.if-tag-eq0.true)
    ]

pub returns : goal.returns
unfolding stale_refusal
returns c = rw (← c.lacks_port.ensures, c.if-lacks_port.false, ne_eqb _ _ c.if-tag-eq0.false)
