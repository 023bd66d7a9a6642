-- Each promise leaves one outcome: two results, and two contents of a lent buffer, that a contract allows are equal, whatever words the tables had. Assumes nothing.
use mathlib.Core.Path.{◌≡◌, sym, ◌∙◌}
use Rattle.outgoing.proofs.Outgoing.fresh.Reads as fresh-reads
use Rattle.outgoing.proofs.hand_in.Reads as hand-in-reads
use Rattle.outgoing.proofs.acknowledge.Reads as acknowledge-reads
use Rattle.outgoing.proofs.shutdown_point.Reads as shutdown-point-reads
use Rattle.outgoing.proofs.t3.Reads as t3-reads
use Rattle.outgoing.proofs.choose.Reads as choose-reads

pub fresh-unique : (κs : _) (a : _) (r q : _) (s t : _) → fresh-reads.Post κs a r s → fresh-reads.Post κs a q t → r ≡ q
fresh-unique κs a r q s t x y = x.0 ∙ sym y.0

pub hand-in-unique : (κs : _) (a : _) (r q : _) (s t : _) → hand-in-reads.Post κs a r s → hand-in-reads.Post κs a q t → (r ≡ q) × (s.1.0.now ≡ t.1.0.now)
hand-in-unique κs a r q s t x y = (x.0 ∙ sym y.0, x.2 ∙ sym y.2)

pub acknowledge-unique : (κs : _) (a : _) (r q : _) (s t : _) → acknowledge-reads.Post κs a r s → acknowledge-reads.Post κs a q t → r ≡ q
acknowledge-unique κs a r q s t x y = x.0 ∙ sym y.0

pub shutdown-point-unique : (κs : _) (a : _) (r q : _) (s t : _) → shutdown-point-reads.Post κs a r s → shutdown-point-reads.Post κs a q t → r ≡ q
shutdown-point-unique κs a r q s t x y = x.0 ∙ sym y.0

pub t3-unique : (κs : _) (a : _) (r q : _) (s t : _) → t3-reads.Post κs a r s → t3-reads.Post κs a q t → r ≡ q
t3-unique κs a r q s t x y = x.0 ∙ sym y.0

pub choose-unique : (κs : _) (a : _) (r q : _) (s t : _) → choose-reads.Post κs a r s → choose-reads.Post κs a q t → r ≡ q
choose-unique κs a r q s t x y = x.0 ∙ sym y.0
