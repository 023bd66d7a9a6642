-- Each promise leaves one outcome: two results, and two contents of the lent table, that a contract allows are equal, whatever words the table had.
-- Assumes nothing.
use mathlib.Core.Path.{◌≡◌, sym, ◌∙◌}
use Rattle.marks.proofs.taken_in.Reads as taken-in-reads
use Rattle.marks.proofs.missed_all.Reads as missed-all-reads
use Rattle.marks.proofs.marked_all.Reads as marked-all-reads
use Rattle.marks.proofs.tallied.Reads as tallied-reads
use Rattle.marks.proofs.having.Reads as having-reads
use Rattle.marks.proofs.is_empty.Reads as is-empty-reads

pub taken-in-unique : (κs : _) (a : _) (r q : _) (s t : _) → taken-in-reads.Post κs a r s → taken-in-reads.Post κs a q t → (r ≡ q) × (s.1.0.now ≡ t.1.0.now)
taken-in-unique κs a r q s t x y = ((λ i. record { newly = (x.0.0 ∙ sym y.0.0) i; highest = (x.0.1 ∙ sym y.0.1) i }), x.1 ∙ sym y.1)

pub missed-all-unique : (κs : _) (a : _) (r q : _) (s t : _) → missed-all-reads.Post κs a r s → missed-all-reads.Post κs a q t → (r ≡ q) × (s.0.now ≡ t.0.now)
missed-all-unique κs a r q s t x y = (x.0 ∙ sym y.0, x.1 ∙ sym y.1)

pub marked-all-unique : (κs : _) (a : _) (r q : _) (s t : _) → marked-all-reads.Post κs a r s → marked-all-reads.Post κs a q t → (r ≡ q) × (s.0.now ≡ t.0.now)
marked-all-unique κs a r q s t x y = (x.0 ∙ sym y.0, x.1 ∙ sym y.1)

pub tallied-unique : (κs : _) (a : _) (r q : _) (s t : _) → tallied-reads.Post κs a r s → tallied-reads.Post κs a q t → r ≡ q
tallied-unique κs a r q s t x y = x.0 ∙ sym y.0

pub having-unique : (κs : _) (a : _) (r q : _) (s t : _) → having-reads.Post κs a r s → having-reads.Post κs a q t → r ≡ q
having-unique κs a r q s t x y = x.0 ∙ sym y.0

pub is-empty-unique : (κs : _) (a : _) (r q : _) (s t : _) → is-empty-reads.Post κs a r s → is-empty-reads.Post κs a q t → r ≡ q
is-empty-unique κs a r q s t x y = x ∙ sym y
