-- Each promise leaves one outcome: two results, and two contents of each table and of the output, that a contract allows are equal, whatever words the
-- tables had. Assumes nothing.
use mathlib.Core.Path.{◌≡◌, sym, ◌∙◌}
use Rattle.taking.proofs.choosing.next_used.Reads as next-used-reads
use Rattle.taking.proofs.choosing.free_places.Reads as free-places-reads
use Rattle.taking.proofs.choosing.choose.Reads as choose-reads
use Rattle.taking.proofs.choosing.can_take.Reads as can-take-reads
use Rattle.taking.proofs.giving.take.Reads as take-reads

pub next-used-unique : (κs : _) (a : _) (r q : _) (s t : _) → next-used-reads.Post κs a r s → next-used-reads.Post κs a q t → r ≡ q
next-used-unique κs a r q s t x y = x ∙ sym y

pub free-places-unique : (κs : _) (a : _) (r q : _) (s t : _) → free-places-reads.Post κs a r s → free-places-reads.Post κs a q t → r ≡ q
free-places-unique κs a r q s t x y = x.0 ∙ sym y.0

pub choose-unique : (κs : _) (a : _) (r q : _) (s t : _) → choose-reads.Post κs a r s → choose-reads.Post κs a q t → r ≡ q
choose-unique κs a r q s t x y = x ∙ sym y

pub can-take-unique : (κs : _) (a : _) (r q : _) (s t : _) → can-take-reads.Post κs a r s → can-take-reads.Post κs a q t → r ≡ q
can-take-unique κs a r q s t x y = x ∙ sym y

pub take-unique : (κs : _) (a : _) (r q : _) (s t : _) → take-reads.Post κs a r s → take-reads.Post κs a q t → (r ≡ q) × (s.0.now ≡ t.0.now) × (s.1.0.now ≡ t.1.0.now) × (s.1.1.1.1.0.now ≡ t.1.1.1.1.0.now)
take-unique κs a r q s t x y = (x.0 ∙ sym y.0, x.1 ∙ sym y.1, x.2 ∙ sym y.2, x.3 ∙ sym y.3)
