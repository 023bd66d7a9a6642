use Rattle.std.proofs.Common.{arith}
use Rattle.std.proofs.lemmas.Nat.Bits.{and_high}
use Rattle.chunks.specs.DataChunk.{data_of}
use Rattle.chunks.specs.FrameLaws.{flag-bit}
use Rattle.chunks.proofs.data.read_data.Goals as goal

pub returns : goal.returns
unfolding data_of
returns c = rw (flag-bit c.get8-f.result 2 (omega arith) (and_high _ 1 1), flag-bit c.get8-f.result 1 (omega arith) (and_high _ 1 0), flag-bit c.get8-f.result 4 (omega arith) (and_high _ 1 2), c.get32-2.ensures, c.get16-2.ensures, c.get16.ensures, c.get32.ensures, c.get8-f.ensures)
