use Rattle.chunks.specs.SackChunk.{repeat_of}
use Rattle.chunks.proofs.sack.repeat_at.Goals as goal

pub returns : goal.returns
unfolding repeat_of
returns c = rw (c.get32.ensures, c.from.ensures, c.from-blocks.ensures, c.get16.ensures)
