-- Each promise leaves one outcome: two results, and two contents of every lent table, that a contract allows are equal, whatever words the tables had.
-- Assumes nothing.
use mathlib.Core.Path.{◌≡◌, sym, ◌∙◌}
use Rattle.acks.specs.AnsweredLaws.{acked-apart, expiries-apart}
use Rattle.acks.proofs.acknowledge.Reads as acknowledge-reads
use Rattle.acks.proofs.shutdown_point.Reads as shutdown-point-reads
use Rattle.acks.proofs.t3.Reads as t3-reads

pub acknowledge-unique : (κs : _) (a : _) (r q : _) (s t : _) → acknowledge-reads.Post κs a r s → acknowledge-reads.Post κs a q t → (r ≡ q) × (s.1.0.now ≡ t.1.0.now)
acknowledge-unique κs a r q s t x y = (acked-apart a.0 r q (x.0 ∙ sym y.0), x.1 ∙ sym y.1)

pub shutdown-point-unique : (κs : _) (a : _) (r q : _) (s t : _) → shutdown-point-reads.Post κs a r s → shutdown-point-reads.Post κs a q t → (r ≡ q) × (s.1.0.now ≡ t.1.0.now)
shutdown-point-unique κs a r q s t x y = (acked-apart a.0 r q (x.0 ∙ sym y.0), x.1 ∙ sym y.1)

pub t3-unique : (κs : _) (a : _) (r q : _) (s t : _) → t3-reads.Post κs a r s → t3-reads.Post κs a q t → (r ≡ q) × (s.1.0.now ≡ t.1.0.now)
t3-unique κs a r q s t x y = (expiries-apart a.0 r q (x.0 ∙ sym y.0), x.1 ∙ sym y.1)
