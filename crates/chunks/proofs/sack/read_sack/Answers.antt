use Rattle.chunks.specs.SackChunk.{sack_head_of}
use Rattle.chunks.proofs.sack.read_sack.Goals as goal

pub returns : goal.returns
unfolding sack_head_of
returns c = rw (c.get16-2.ensures, c.get16.ensures, c.get32-2.ensures, c.get32.ensures)
