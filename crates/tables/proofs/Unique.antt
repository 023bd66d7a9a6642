-- Each promise leaves one outcome: two results, and two contents of a lent table, that a contract allows are equal, whatever words the table had.
-- Assumes nothing.
use mathlib.Core.Path.{◌≡◌, sym, ◌∙◌}
use Rattle.tables.proofs.held.held_at.Reads as held-at-reads
use Rattle.tables.proofs.held.is_used.Reads as is-used-reads
use Rattle.tables.proofs.held.is_of.Reads as is-of-reads
use Rattle.tables.proofs.held.put_held.Reads as put-held-reads
use Rattle.tables.proofs.held.free_held.Reads as free-held-reads
use Rattle.tables.proofs.held.clear.Reads as held-clear-reads
use Rattle.tables.proofs.ssns.ssn_at.Reads as ssn-at-reads
use Rattle.tables.proofs.ssns.put_ssn.Reads as put-ssn-reads
use Rattle.tables.proofs.ssns.clear.Reads as ssns-clear-reads
use Rattle.tables.proofs.place.clear.Reads as place-clear-reads

pub held-at-unique : (κs : _) (a : _) (r q : _) (s t : _) → held-at-reads.Post κs a r s → held-at-reads.Post κs a q t → r ≡ q
held-at-unique κs a r q s t x y = x ∙ sym y

pub is-used-unique : (κs : _) (a : _) (r q : _) (s t : _) → is-used-reads.Post κs a r s → is-used-reads.Post κs a q t → r ≡ q
is-used-unique κs a r q s t x y = x ∙ sym y

pub is-of-unique : (κs : _) (a : _) (r q : _) (s t : _) → is-of-reads.Post κs a r s → is-of-reads.Post κs a q t → r ≡ q
is-of-unique κs a r q s t x y = x ∙ sym y

pub put-held-unique : (κs : _) (a : _) (r q : _) (s t : _) → put-held-reads.Post κs a r s → put-held-reads.Post κs a q t → s.0.now ≡ t.0.now
put-held-unique κs a r q s t x y = x ∙ sym y

pub free-held-unique : (κs : _) (a : _) (r q : _) (s t : _) → free-held-reads.Post κs a r s → free-held-reads.Post κs a q t → s.0.now ≡ t.0.now
free-held-unique κs a r q s t x y = x ∙ sym y

pub ssn-at-unique : (κs : _) (a : _) (r q : _) (s t : _) → ssn-at-reads.Post κs a r s → ssn-at-reads.Post κs a q t → r ≡ q
ssn-at-unique κs a r q s t x y = x ∙ sym y

pub put-ssn-unique : (κs : _) (a : _) (r q : _) (s t : _) → put-ssn-reads.Post κs a r s → put-ssn-reads.Post κs a q t → s.0.now ≡ t.0.now
put-ssn-unique κs a r q s t x y = x ∙ sym y

pub held-clear-unique : (κs : _) (a : _) (r q : _) (s t : _) → held-clear-reads.Post κs a r s → held-clear-reads.Post κs a q t → s.0.now ≡ t.0.now
held-clear-unique κs a r q s t x y = x ∙ sym y

pub ssns-clear-unique : (κs : _) (a : _) (r q : _) (s t : _) → ssns-clear-reads.Post κs a r s → ssns-clear-reads.Post κs a q t → s.0.now ≡ t.0.now
ssns-clear-unique κs a r q s t x y = x ∙ sym y

pub place-clear-unique : (κs : _) (a : _) (r q : _) (s t : _) → place-clear-reads.Post κs a r s → place-clear-reads.Post κs a q t → s.0.now ≡ t.0.now
place-clear-unique κs a r q s t x y = x ∙ sym y
