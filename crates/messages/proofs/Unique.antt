-- Each promise leaves one outcome: two results, and two contents of every lent table, that a contract allows are equal, whatever words the tables had.
-- Assumes nothing.
use Rattle.std.proofs.Common.{◌≡◌, sym, ◌∙◌}
use Rattle.messages.specs.HandingLaws.{handings-apart}
use Rattle.messages.proofs.hand_in.Reads as hand-in-reads

pub hand-in-unique : (κs : _) (a : _) (r q : _) (s t : _) → hand-in-reads.Post κs a r s → hand-in-reads.Post κs a q t
    → (r ≡ q) × (s.1.0.now ≡ t.1.0.now) × (s.1.1.0.now ≡ t.1.1.0.now)
hand-in-unique κs a r q s t x y = (handings-apart r q (x.0 ∙ sym y.0), x.1.0 ∙ sym y.1.0, x.1.1 ∙ sym y.1.1)
