use Rattle.chunks.specs.ShutdownChunk.{point_of}
use Rattle.chunks.proofs.shutdown.point.Goals as goal

pub returns : goal.returns
unfolding point_of
returns c = rw c.get32.ensures
