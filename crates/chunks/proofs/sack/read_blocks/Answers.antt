use Rattle.std.proofs.Common.{arith}
use Rattle.chunks.specs.SackLaws.{filling-one, blocks-filled}
use Rattle.chunks.proofs.sack.read_blocks.Goals as goal

pub loop-i-preserved : goal.loop-i-preserved
loop-i-preserved c = (filling-one c.loop-i.invariant.0 (omega arith) c.get16.ensures, filling-one c.loop-i.invariant.1 (omega arith) c.get16-in-loop-i.ensures)

pub returns : goal.returns
returns c = blocks-filled _ c.count_in-count.ensures.0 (omega arith) c.loop-i.invariant.0 c.loop-i.invariant.1
