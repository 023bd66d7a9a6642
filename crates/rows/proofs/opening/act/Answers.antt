use mathlib.Core.Path.{refl}
use Rattle.steps.specs.Opening.{established}
use Rattle.steps.specs.Meeting.{acts}
use Rattle.flat.specs.Shown.{bare}
use Rattle.rows.specs.TableRowsLaws.{accepted-told}
use Rattle.rows.proofs.opening.act.Goals as goal

pub returns-then-starts : goal.returns-then-starts
unfolding acts
returns-then-starts c = rw (← c.starts.ensures, c.if-starts.true, ← c.started_as-event.ensures) (let t = accepted-told (established (bare c.args.head) c.args.source c.args.m) c.write_cookie_ack-n.ensures c.established-after.ensures c.accepted.ensures in (t.0, c.clear.ensures.0, c.clear.ensures.1, c.clear.ensures.2, c.clear.ensures.3, c.clear.ensures.4, t.1))

pub returns : goal.returns
unfolding acts
returns c = rw (← c.starts.ensures, c.if-starts.false) (c.stay.ensures.0, refl, refl, refl, refl, refl, c.stay.ensures.1)
