use borrow.Author.Tests.{eq-eqb, ne_eqb}
use Rattle.calls.specs.Opening.{associate_refusal}
use Rattle.asks.proofs.opening.check.Goals as goal
use Rattle.asks.proofs.opening.check.Goals.{then-tag-eq0-via-then-tag-eq0, then-tag-eq0-via-else-tag-eq0+then-streams-eq0}

pub returns-then-lacks_port : goal.returns-then-lacks_port
unfolding associate_refusal
returns-then-lacks_port c = rw (← c.lacks_port.ensures, c.if-lacks_port.true)

pub returns-then-tag-eq0 : goal.returns-then-tag-eq0
unfolding associate_refusal
returns-then-tag-eq0 c =
    elim c.then-tag-eq0.branch [
      | then-tag-eq0-via-then-tag-eq0 w ↦ rw (← c.lacks_port.ensures, c.if-lacks_port.false, eq-eqb _ _ w.if-tag-eq0.true)
      | then-tag-eq0-via-else-tag-eq0+then-streams-eq0 w ↦ rw (← c.lacks_port.ensures, c.if-lacks_port.false, ne_eqb _ _ w.if-tag-eq0.false, eq-eqb _ _ w.if-streams-eq0.true)
    ]

pub returns : goal.returns
unfolding associate_refusal
returns c = rw (← c.lacks_port.ensures, c.if-lacks_port.false, ne_eqb _ _ c.if-tag-eq0.false, ne_eqb _ _ c.if-streams-eq0.false)
