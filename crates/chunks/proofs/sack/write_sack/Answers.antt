use Rattle.std.proofs.Common.{refl, arith}
use Rattle.chunks.specs.SackLaws.{sack-blocks, sack-listed, sack-wrote, rows-item}
use Rattle.chunks.proofs.sack.write_sack.Goals as goal
use Rattle.chunks.proofs.sack.write_sack.Goals.{then-b-gt-BLOCKS-via-then-b-gt-BLOCKS, then-b-gt-BLOCKS-via-else-b-gt-BLOCKS+then-d-gt-LISTED}

pub returns-then-b-gt-BLOCKS : goal.returns-then-b-gt-BLOCKS
returns-then-b-gt-BLOCKS c = elim c.then-b-gt-BLOCKS.branch [
  | then-b-gt-BLOCKS-via-then-b-gt-BLOCKS w ↦ sack-blocks _ w.if-b-gt-BLOCKS.true
  | then-b-gt-BLOCKS-via-else-b-gt-BLOCKS+then-d-gt-LISTED w ↦ sack-listed _ w.if-b-gt-BLOCKS.false w.if-d-gt-LISTED.true
]

pub loop-i-preserved : goal.loop-i-preserved
loop-i-preserved c = rows-item c.loop-i.invariant (omega arith) _ c.halves-in-loop-i.ensures (omega arith)

pub loop-j-preserved : goal.loop-j-preserved
loop-j-preserved c = rows-item c.loop-j.invariant (omega arith) _ refl (omega arith)

pub returns : goal.returns
returns c = sack-wrote c.args.k (omega arith) (omega arith) c.loop-j.invariant (omega arith) (omega arith) c.write.ensures
