use Rattle.std.proofs.Common.{◌∙◌, arith}
use Rattle.chunks.specs.Frame.{chunk_end}
use Rattle.scans.specs.Upto.{min-smaller}
use Rattle.chunks.proofs.frame.end.Goals as goal

pub returns : goal.returns
unfolding chunk_end
returns c = (c.min.ensures ∙ min-smaller _ _ ∙ rw (c.from.ensures, c.get16.ensures), omega arith)
