-- Each promise over places leaves one outcome: two results, and two contents of a lent table, that a contract allows are equal. Assumes nothing.
use mathlib.Core.Path.{◌≡◌, sym, ◌∙◌}
use Rattle.tables.proofs.place.place_at.Reads as place-at-reads
use Rattle.tables.proofs.place.status_at.Reads as status-at-reads
use Rattle.tables.proofs.place.put_place.Reads as put-place-reads
use Rattle.tables.proofs.place.put_state.Reads as put-state-reads

pub place-at-unique : (κs : _) (a : _) (r q : _) (s t : _) → place-at-reads.Post κs a r s → place-at-reads.Post κs a q t → r ≡ q
place-at-unique κs a r q s t x y = x ∙ sym y

pub status-at-unique : (κs : _) (a : _) (r q : _) (s t : _) → status-at-reads.Post κs a r s → status-at-reads.Post κs a q t → r ≡ q
status-at-unique κs a r q s t x y = x ∙ sym y

pub put-place-unique : (κs : _) (a : _) (r q : _) (s t : _) → put-place-reads.Post κs a r s → put-place-reads.Post κs a q t → s.0.now ≡ t.0.now
put-place-unique κs a r q s t x y = x ∙ sym y

pub put-state-unique : (κs : _) (a : _) (r q : _) (s t : _) → put-state-reads.Post κs a r s → put-state-reads.Post κs a q t → s.0.now ≡ t.0.now
put-state-unique κs a r q s t x y = x ∙ sym y
