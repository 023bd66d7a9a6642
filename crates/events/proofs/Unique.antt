-- Each promise leaves one outcome: two results that a contract allows are equal. Assumes nothing.
use mathlib.Core.Path.{◌≡◌, sym, ◌∙◌}
use Rattle.events.proofs.event.Event.of.Reads as of-reads

pub of-unique : (κs : _) (a : _) (r q : _) (s t : _) → of-reads.Post κs a r s → of-reads.Post κs a q t → r ≡ q
of-unique κs a r q s t x y = x ∙ sym y
