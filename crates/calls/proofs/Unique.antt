-- Each promise leaves one outcome: two results, and two contents of a lent buffer, that a contract allows are equal.
-- Assumes nothing.
use mathlib.Core.Path.{◌≡◌, sym, ◌∙◌}
use Rattle.calls.specs.PeekLaws.{told-numbers-apart}
use Rattle.calls.proofs.acknowledging.no_sack.Reads as no-sack-reads
use Rattle.calls.proofs.peeking.peek.Reads as peek-reads

pub no-sack-unique : (κs : _) (a : _) (r q : _) (s t : _) → no-sack-reads.Post κs a r s → no-sack-reads.Post κs a q t → r ≡ q
no-sack-unique κs a r q s t x y = x ∙ sym y

pub peek-unique : (κs : _) (a : _) (r q : _) (s t : _) → peek-reads.Post κs a r s → peek-reads.Post κs a q t → r ≡ q
peek-unique κs a r q s t x y = told-numbers-apart r q (x ∙ sym y)
