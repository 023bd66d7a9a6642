-- Each promise leaves one outcome: two results that a contract allows are equal, whatever words the table has. Assumes nothing.
use mathlib.Core.Path.{◌≡◌, sym, ◌∙◌}
use mathlib.Core.List.{[]}
use Rattle.sender.proofs.Sender.room.Reads as room-reads
use Rattle.sender.proofs.is_within.Reads as is-within-reads
use Rattle.sender.proofs.Sender.fresh.Reads as fresh-reads
use Rattle.sender.proofs.Sender.sampled.Reads as sampled-reads
use Rattle.sender.proofs.Sender.doubled.Reads as doubled-reads
use Rattle.sender.proofs.Sender.heard.Reads as heard-reads

pub room-unique : (κs : _) (a : _) (r q : _) (s t : _) → room-reads.Post κs a r s → room-reads.Post κs a q t → r ≡ q
room-unique κs a r q s t x y = x ∙ sym y

pub is-within-unique : (κs : _) (a : _) (r q : _) (s t : _) → is-within-reads.Post κs a r s → is-within-reads.Post κs a q t → r ≡ q
is-within-unique κs a r q s t x y = x [] ∙ sym (y [])

pub fresh-unique : (κs : _) (a : _) (r q : _) (s t : _) → fresh-reads.Post κs a r s → fresh-reads.Post κs a q t → r ≡ q
fresh-unique κs a r q s t x y = x ∙ sym y

pub sampled-unique : (κs : _) (a : _) (r q : _) (s t : _) → sampled-reads.Post κs a r s → sampled-reads.Post κs a q t → r ≡ q
sampled-unique κs a r q s t x y = x ∙ sym y

pub doubled-unique : (κs : _) (a : _) (r q : _) (s t : _) → doubled-reads.Post κs a r s → doubled-reads.Post κs a q t → r ≡ q
doubled-unique κs a r q s t x y = x ∙ sym y

pub heard-unique : (κs : _) (a : _) (r q : _) (s t : _) → heard-reads.Post κs a r s → heard-reads.Post κs a q t → r ≡ q
heard-unique κs a r q s t x y = x ∙ sym y
