use mathlib.Core.Path.{refl, ap}
use native.Mathlib.Omega.{arith}
use Rattle.calls.specs.PacketLaws.{one-small, sent-one}
use Rattle.chunks.specs.CookieChunk.{cookie_echo_bytes}
use Rattle.asks.proofs.packet.send_cookie_echo.Goals as goal

pub overflow_add-n : goal.overflow_add-n
overflow_add-n c = omega (arith, one-small c.args.out.now (omega arith) c.write_cookie_echo-n.ensures)

pub returns : goal.returns
returns c = sent-one c.args.out.now (omega arith) c.write_cookie_echo-n.ensures (ap cookie_echo_bytes c.part-cookie.ensures) c.to_peer-h.ensures refl c.seal.ensures
