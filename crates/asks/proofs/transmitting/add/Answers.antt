use mathlib.Core.Path.{refl}
use native.Mathlib.Omega.{arith}
use Rattle.numbers.specs.Profile.{rail}
use Rattle.chunks.specs.DataChunk.{data_bytes}
use Rattle.calls.specs.Transmit.{chunk_bytes}
use Rattle.calls.specs.TransmitLaws.{part-few, added-one}
use Rattle.asks.proofs.transmitting.add.Goals as goal

pub overflow_add-result : goal.overflow_add-result
overflow_add-result c = omega (arith, part-few c.args.at c.args.out.now (omega arith) c.write_data.ensures)

pub returns : goal.returns
unfolding chunk_bytes
returns c = let payload = rw (c.from.ensures, c.from-2.ensures) at c.part-payload.ensures in added-one c.args.at c.args.out.now (omega arith) c.write_data.ensures (λ j. data_bytes rail (c.data_of.ensures j) (payload j)) refl
