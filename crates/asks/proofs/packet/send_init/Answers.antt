use mathlib.Core.Path.{refl, ap}
use native.Mathlib.Omega.{arith}
use Rattle.calls.specs.PacketLaws.{one-small, sent-one}
use Rattle.chunks.specs.Frame.{framed}
use Rattle.chunks.specs.InitChunk.{init_fields}
use Rattle.chunks.specs.declared.init.Init.{Init}
use Rattle.asks.proofs.packet.send_init.Goals as goal

pub overflow_add-n : goal.overflow_add-n
overflow_add-n c = omega (arith, one-small c.args.out.now (omega arith) c.write_init-n.ensures)

pub returns : goal.returns
returns c = sent-one c.args.out.now (omega arith) c.write_init-n.ensures (ap (λ (v : Init). framed 1 0 (init_fields v)) c.init-v.ensures) c.head_of-h.ensures refl c.seal.ensures
