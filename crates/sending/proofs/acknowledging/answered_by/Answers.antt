use Rattle.sending.specs.Acknowledge.{probe_answered}
use Rattle.sending.proofs.acknowledging.answered_by.Goals as goal

pub returns-then-is_closed_window : goal.returns-then-is_closed_window
unfolding probe_answered
returns-then-is_closed_window c = rw (← c.is_closed_window.ensures, c.if-is_closed_window.true) c.heard.ensures

pub returns-else-is_closed_window : goal.returns-else-is_closed_window
unfolding probe_answered
returns-else-is_closed_window c = rw (← c.is_closed_window.ensures, c.if-is_closed_window.false)
