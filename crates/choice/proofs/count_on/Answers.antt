use Rattle.std.proofs.Common.{◌≡◌, Bool, true, false, not, refl, sym, eq-eqb, ne_eqb}
use Rattle.choice.specs.Fill.{counted_in}
use Rattle.choice.proofs.count_on.Goals.{else-p-ne-MARKED-via-then-p-ne-MARKED+then-not-c+else-c, else-p-ne-MARKED-via-then-p-ne-MARKED+else-not-c, else-p-ne-MARKED-via-else-p-ne-MARKED}
use Rattle.choice.proofs.count_on.Goals as goal

not-false : (b : Bool) → not b ≡ true → b ≡ false
not-false true e = sym e
not-false false e = refl

not-true : (b : Bool) → not b ≡ false → b ≡ true
not-true true e = refl
not-true false e = sym e

pub returns-then-c : goal.returns-then-c
unfolding counted_in
returns-then-c c = rw (ne_eqb _ _ c.if-p-ne-MARKED.true, not-false _ c.if-not-c.true, c.if-c.true, ← c.from-i.ensures, ← c.ssn_at.ensures, ← c.after-n.ensures) c.put_ssn.ensures

pub returns-else-p-ne-MARKED : goal.returns-else-p-ne-MARKED
unfolding counted_in
returns-else-p-ne-MARKED c =
    elim c.else-p-ne-MARKED.branch [
      | else-p-ne-MARKED-via-then-p-ne-MARKED+then-not-c+else-c w ↦ rw (ne_eqb _ _ w.if-p-ne-MARKED.true, not-false _ w.if-not-c.true, w.if-c.false)
      | else-p-ne-MARKED-via-then-p-ne-MARKED+else-not-c w ↦ rw (ne_eqb _ _ w.if-p-ne-MARKED.true, not-true _ w.if-not-c.false)
      | else-p-ne-MARKED-via-else-p-ne-MARKED w ↦ rw (eq-eqb _ _ w.if-p-ne-MARKED.false)
    ]
