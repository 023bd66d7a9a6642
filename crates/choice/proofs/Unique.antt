-- Each promise leaves one outcome: two results, and two contents of every lent table, that a contract allows are equal, whatever words the tables had.
-- Assumes nothing.
use Rattle.std.proofs.Common.{◌≡◌, sym, ◌∙◌}
use Rattle.choice.proofs.choose.Reads as choose-reads

pub choose-unique : (κs : _) (a : _) (r q : _) (s t : _) → choose-reads.Post κs a r s → choose-reads.Post κs a q t
    → (r ≡ q) × (s.1.0.now ≡ t.1.0.now) × (s.1.1.0.now ≡ t.1.1.0.now)
choose-unique κs a r q s t x y =
    ((λ i. record { head = (x.0.0 ∙ sym y.0.0) i; load = (x.0.1 ∙ sym y.0.1) i }), x.1.0 ∙ sym y.1.0, x.1.1 ∙ sym y.1.1)
