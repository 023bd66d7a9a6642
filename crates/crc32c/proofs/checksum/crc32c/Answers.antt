use mathlib.Core.Path.{ap, ◌∙◌}
use Prim.Native.Nat.{ℕ}
use lib.Bits.{bit_xor}
use Rattle.crc32c_register.specs.RegisterLaws.{crc-of}
use Rattle.crc32c.proofs.checksum.crc32c.Goals as goal

pub returns : goal.returns
returns c = ap (λ (x : ℕ). bit_xor x 0xFFFF_FFFF) c.update.ensures ∙ crc-of c.args.s.now
