use Rattle.std.proofs.Common.{eq-eqb, ne_eqb, lt-ltb, le-ltb}
use Rattle.sending.specs.SendingBounds.{is_place_odd}
use Rattle.sending.proofs.bounds.is_odd.Goals.{then-p-gt-BLOCKED-via-then-p-gt-BLOCKED, then-p-gt-BLOCKED-via-else-p-gt-BLOCKED+then-p-gt-STRIKES}
use Rattle.sending.proofs.bounds.is_odd.Goals as goal

pub returns-then-p-gt-BLOCKED : goal.returns-then-p-gt-BLOCKED
unfolding is_place_odd
returns-then-p-gt-BLOCKED c =
    elim c.then-p-gt-BLOCKED.branch [
      | then-p-gt-BLOCKED-via-then-p-gt-BLOCKED w ↦ rw (lt-ltb _ _ w.if-p-gt-BLOCKED.true)
      | then-p-gt-BLOCKED-via-else-p-gt-BLOCKED+then-p-gt-STRIKES w ↦ rw (le-ltb _ _ w.if-p-gt-BLOCKED.false, lt-ltb _ _ w.if-p-gt-STRIKES.true)
    ]

pub returns-then-p-ne-FREE : goal.returns-then-p-ne-FREE
unfolding is_place_odd
returns-then-p-ne-FREE c = rw (le-ltb _ _ c.if-p-gt-BLOCKED.false, le-ltb _ _ c.if-p-gt-STRIKES.false, ne_eqb _ _ c.if-p-ne-FREE.true) c.is_misfit.ensures

pub returns-else-p-ne-FREE : goal.returns-else-p-ne-FREE
unfolding is_place_odd
returns-else-p-ne-FREE c = rw (le-ltb _ _ c.if-p-gt-BLOCKED.false, le-ltb _ _ c.if-p-gt-STRIKES.false, eq-eqb _ _ c.if-p-ne-FREE.false)
