use Rattle.chunks.specs.InitChunk.{init_of}
use Rattle.chunks.proofs.init.read_init.Goals as goal

pub returns : goal.returns
unfolding init_of
returns c = rw (c.get32-3.ensures, c.get16-2.ensures, c.get16.ensures, c.get32-2.ensures, c.get32.ensures)
