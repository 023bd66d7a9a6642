use Rattle.std.proofs.Common.{eq-eqb, le-ltb, sym, ◌∙◌, arith, ◌≤◌}
use Rattle.scans.specs.Each.{clash}
use Rattle.sending.specs.HandIn.{is_refused}
use Rattle.sending.proofs.cutting.is_refused.Goals.{then-len-eq0, else-len-eq0}
use Rattle.sending.proofs.cutting.is_refused.Goals as goal

pub returns-then-len : goal.returns-then-len
unfolding is_refused
returns-then-len c =
    elim c.if-len-eq0.branch [
      | then-len-eq0 w ↦ rw w.if-len-eq0.true c.if-len.true
      | else-len-eq0 w ↦ let l : 1 ≤ c.args.len = omega (arith, w.if-len-eq0.false) in rw (le-ltb _ _ l, sym w.value-is ∙ c.if-len.true) c.if-len.true
    ]

pub returns-else-len : goal.returns-else-len
unfolding is_refused
returns-else-len c =
    elim c.if-len-eq0.branch [
      | then-len-eq0 w ↦ clash (sym c.if-len.false ∙ w.value-is ∙ eq-eqb _ _ w.if-len-eq0.true)
      | else-len-eq0 w ↦ let l : 1 ≤ c.args.len = omega (arith, w.if-len-eq0.false) in rw (le-ltb _ _ l, sym w.value-is ∙ c.if-len.false, ← c.is_agreed.ensures)
    ]
