use Rattle.std.proofs.Common.{eq-eqb, ne_eqb, lt-ltb}
use Rattle.pages.specs.Reading.{half_put, high_of}
use Rattle.pages.proofs.reading.put_half.Goals as goal
use Rattle.pages.proofs.reading.put_half.Goals.{then-n-eq0, else-n-eq0}

pub returns : goal.returns
unfolding half_put high_of
returns c = elim c.if-n-eq0.branch [
  | then-n-eq0 w ↦ rw (eq-eqb _ _ w.if-n-eq0.true, lt-ltb _ _ c.requires, ← w.byte-is) (λ i. record { out = c.put8.ensures i; half = c.plus.ensures i })
  | else-n-eq0 w ↦ rw (ne_eqb _ _ w.if-n-eq0.false, ← w.get8.ensures, ← w.joined-byte.ensures, ← w.byte-is) (λ i. record { out = c.put8.ensures i; half = c.plus.ensures i })
]
