use Rattle.std.proofs.Common.{lt-ltb, le-ltb, sym, ◌∙◌}
use Rattle.scans.specs.Each.{clash}
use Rattle.sending.specs.Acknowledge.{judged_blocks}
use Rattle.sending.proofs.acknowledging.judge_blocks.Goals.{then-b-gt-BLOCKS, else-b-gt-BLOCKS}
use Rattle.sending.proofs.acknowledging.judge_blocks.Goals as goal

pub returns-then-any_ill : goal.returns-then-any_ill
unfolding judged_blocks
returns-then-any_ill c =
    elim c.if-b-gt-BLOCKS.branch [
      | then-b-gt-BLOCKS w ↦ rw (lt-ltb _ _ w.if-b-gt-BLOCKS.true)
      | else-b-gt-BLOCKS w ↦ rw (le-ltb _ _ w.if-b-gt-BLOCKS.false, ← w.any_ill.ensures, sym w.value-is ∙ c.if-any_ill.true)
    ]

pub returns-else-any_ill : goal.returns-else-any_ill
unfolding judged_blocks
returns-else-any_ill c =
    elim c.if-b-gt-BLOCKS.branch [
      | then-b-gt-BLOCKS w ↦ clash (sym c.if-any_ill.false ∙ w.value-is ∙ lt-ltb _ _ w.if-b-gt-BLOCKS.true)
      | else-b-gt-BLOCKS w ↦ rw (le-ltb _ _ w.if-b-gt-BLOCKS.false, ← w.any_ill.ensures, sym w.value-is ∙ c.if-any_ill.false)
    ]
