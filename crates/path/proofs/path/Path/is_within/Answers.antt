use mathlib.Core.Bool.{true, false}
use mathlib.Core.Path.{◌≡◌, sym, ◌∙◌}
use Rattle.scans.specs.Each.{clash}
use Rattle.path.specs.Path.{is_path_within}
use Rattle.path.proofs.path.Path.is_within.Goals.{then-is_within, else-is_within}
use Rattle.path.proofs.path.Path.is_within.Goals as goal

pub returns-then-is_within-2 : goal.returns-then-is_within-2
unfolding is_path_within
returns-then-is_within-2 c =
    elim c.if-is_within.branch [
      | then-is_within w ↦ rw (← c.is_within.ensures, w.if-is_within.true, ← w.is_within-then-is_within.ensures, sym w.value-is ∙ c.if-is_within-2.true)
      | else-is_within w ↦ let t = c.if-is_within-2.true in let f = w.if-is_within.false in let v = w.value-is in let z : false ≡ true = cc in clash z
    ]

pub returns-else-is_within-2 : goal.returns-else-is_within-2
unfolding is_path_within
returns-else-is_within-2 c =
    elim c.if-is_within.branch [
      | then-is_within w ↦ rw (← c.is_within.ensures, w.if-is_within.true, ← w.is_within-then-is_within.ensures, sym w.value-is ∙ c.if-is_within-2.false) c.if-is_within-2.false
      | else-is_within w ↦ rw (← c.is_within.ensures, w.if-is_within.false) c.if-is_within-2.false
    ]
