use Rattle.std.proofs.Common.{◌∙◌, arith}
use Rattle.chunks.specs.SackChunk.{blocks_listed}
use Rattle.scans.specs.Upto.{min-smaller}
use Rattle.chunks.proofs.sack.count_in.Goals as goal

pub returns : goal.returns
unfolding blocks_listed
returns c = (c.min.ensures ∙ min-smaller _ _ ∙ rw (c.from.ensures, c.get16.ensures), omega arith)
