-- Each promise leaves one outcome: two results, and two contents of the table and of the area, that a contract allows are equal, whatever words the tables
-- had. Assumes nothing.
use mathlib.Core.Path.{◌≡◌, sym, ◌∙◌}
use Rattle.reception.proofs.arrival.arrive.Reads as arrive-reads
use Rattle.reception.proofs.acknowledging.sack.Reads as sack-reads
use Rattle.reception.proofs.bounds.is_sound.Reads as is-sound-reads

pub arrive-unique : (κs : _) (a : _) (r q : _) (s t : _) → arrive-reads.Post κs a r s → arrive-reads.Post κs a q t → (r ≡ q) × (s.1.0.now ≡ t.1.0.now) × (s.1.1.1.0.now ≡ t.1.1.1.0.now)
arrive-unique κs a r q s t x y = (x.0 ∙ sym y.0, x.1 ∙ sym y.1, x.2 ∙ sym y.2)

pub sack-unique : (κs : _) (a : _) (r q : _) (s t : _) → sack-reads.Post κs a r s → sack-reads.Post κs a q t → r ≡ q
sack-unique κs a r q s t x y = x ∙ sym y

pub is-sound-unique : (κs : _) (a : _) (r q : _) (s t : _) → is-sound-reads.Post κs a r s → is-sound-reads.Post κs a q t → r ≡ q
is-sound-unique κs a r q s t x y = x ∙ sym y
