use mathlib.Core.Path.{sym, ◌∙◌}
use Rattle.places.specs.Places.{is_outstanding, marked_for_resend}
use Rattle.places.proofs.place.Place.marked.Goals as goal

pub returns-then-is_outstanding : goal.returns-then-is_outstanding
unfolding marked_for_resend is_outstanding
returns-then-is_outstanding c = rw (sym c.is_outstanding.ensures ∙ c.if-is_outstanding.true)

pub returns-else-is_outstanding : goal.returns-else-is_outstanding
unfolding marked_for_resend is_outstanding
returns-else-is_outstanding c = rw (sym c.is_outstanding.ensures ∙ c.if-is_outstanding.false)
