-- Each promise leaves one outcome: two results, and two contents of a lent buffer, that a contract allows are equal, whatever words the tables had. Assumes nothing.
use mathlib.Core.Path.{◌≡◌, sym, ◌∙◌}
use Rattle.incoming.proofs.Incoming.fresh.Reads as fresh-reads
use Rattle.incoming.proofs.arrive.Reads as arrive-reads
use Rattle.incoming.proofs.take.Reads as take-reads
use Rattle.incoming.proofs.sack.Reads as sack-reads

pub fresh-unique : (κs : _) (a : _) (r q : _) (s t : _) → fresh-reads.Post κs a r s → fresh-reads.Post κs a q t → r ≡ q
fresh-unique κs a r q s t x y = x.0 ∙ sym y.0

pub arrive-unique : (κs : _) (a : _) (r q : _) (s t : _) → arrive-reads.Post κs a r s → arrive-reads.Post κs a q t → (r ≡ q) × (s.1.0.now ≡ t.1.0.now)
arrive-unique κs a r q s t x y = (x.0 ∙ sym y.0, x.2 ∙ sym y.2)

pub take-unique : (κs : _) (a : _) (r q : _) (s t : _) → take-reads.Post κs a r s → take-reads.Post κs a q t → (r ≡ q) × (s.1.1.0.now ≡ t.1.1.0.now)
take-unique κs a r q s t x y = (x.0 ∙ sym y.0, x.2 ∙ sym y.2)

pub sack-unique : (κs : _) (a : _) (r q : _) (s t : _) → sack-reads.Post κs a r s → sack-reads.Post κs a q t → r ≡ q
sack-unique κs a r q s t x y = x.0 ∙ sym y.0
