use Rattle.chunks.specs.SackChunk.{block_of}
use Rattle.chunks.proofs.sack.block_at.Goals as goal

pub returns : goal.returns
unfolding block_of
returns c = rw (c.get16-2.ensures, c.get16.ensures, c.from.ensures)
