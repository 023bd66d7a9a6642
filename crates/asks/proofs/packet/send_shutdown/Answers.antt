use mathlib.Core.Path.{refl}
use native.Mathlib.Omega.{arith}
use Rattle.calls.specs.PacketLaws.{one-small, sent-one}
use Rattle.asks.proofs.packet.send_shutdown.Goals as goal

pub overflow_add-n : goal.overflow_add-n
overflow_add-n c = omega (arith, one-small c.args.out.now (omega arith) c.write_shutdown-n.ensures)

pub returns : goal.returns
returns c = sent-one c.args.out.now (omega arith) c.write_shutdown-n.ensures refl c.to_peer-h.ensures refl c.seal.ensures
