-- Each promise leaves one outcome: two results, and two contents of a lent buffer, that a contract allows are equal. Assumes nothing.
use mathlib.Core.Path.{◌≡◌, sym, ◌∙◌}
use mathlib.Core.List.{[]}
use Rattle.flat.proofs.head.Head.moved.Reads as moved-reads
use Rattle.flat.proofs.head.Head.started.Reads as started-reads
use Rattle.flat.proofs.head.Head.closed.Reads as closed-reads
use Rattle.flat.proofs.head.Association.closed.Reads as whole-closed-reads
use Rattle.flat.proofs.fresh.clear_cookie.Reads as clear-cookie-reads
use Rattle.flat.proofs.bounds.is_sound.Reads as is-sound-reads

pub moved-unique : (κs : _) (a : _) (r q : _) (s t : _) → moved-reads.Post κs a r s → moved-reads.Post κs a q t → r ≡ q
moved-unique κs a r q s t x y = x ∙ sym y

pub started-unique : (κs : _) (a : _) (r q : _) (s t : _) → started-reads.Post κs a r s → started-reads.Post κs a q t → r ≡ q
started-unique κs a r q s t x y = x ∙ sym y

pub closed-unique : (κs : _) (a : _) (r q : _) (s t : _) → closed-reads.Post κs a r s → closed-reads.Post κs a q t → r ≡ q
closed-unique κs a r q s t x y = x ∙ sym y

pub whole-closed-unique : (κs : _) (a : _) (r q : _) (s t : _) → whole-closed-reads.Post κs a r s → whole-closed-reads.Post κs a q t → r ≡ q
whole-closed-unique κs a r q s t x y = x ∙ sym y

pub clear-cookie-unique : (κs : _) (a : _) (r q : _) (s t : _) → clear-cookie-reads.Post κs a r s → clear-cookie-reads.Post κs a q t → s.0.now ≡ t.0.now
clear-cookie-unique κs a r q s t x y = x ∙ sym y

pub is-sound-unique : (κs : _) (a : _) (r q : _) (s t : _) → is-sound-reads.Post κs a r s → is-sound-reads.Post κs a q t → r ≡ q
is-sound-unique κs a r q s t x y = x [] [] [] ∙ sym (y [] [] [])
