use Rattle.std.proofs.Common.{arith}
use Rattle.chunks.specs.FrameLaws.{part_from-is}
use Rattle.chunks.proofs.frame.part_from.Goals as goal

pub returns : goal.returns
returns c = (part_from-is _ _ (rw (← c.end-e.ensures.0) c.min-at.ensures) (rw c.end-e.ensures.0), omega arith)
