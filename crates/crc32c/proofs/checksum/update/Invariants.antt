use Rattle.std.proofs.Common.{◌≡◌, ◌*◌, drop}
use Rattle.crc32c_register.specs.Register.{crc_from}
use Rattle.crc32c.proofs.checksum.update.Given as goal

abbrev pub invariant-loop-bytes : goal.invariant-loop-bytes
invariant-loop-bytes l = crc_from l.r (drop (8 * l.bytes-index) l.s) ≡ crc_from l.c l.s

abbrev pub invariant-loop-b : goal.invariant-loop-b
invariant-loop-b l = crc_from l.r (drop l.b-index l.rest) ≡ crc_from l.c l.s
