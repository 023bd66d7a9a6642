use Rattle.std.proofs.Common.{ℕ, ◌+◌, ◌*◌}
use Rattle.octets.specs.Bytes.{u16}
use Rattle.chunks.specs.SackLaws.{ArrayFilling}
use Rattle.chunks.proofs.sack.read_blocks.Given as goal

abbrev pub invariant-loop-i : goal.invariant-loop-i
invariant-loop-i l = ArrayFilling (λ (k : ℕ). u16 l.s (16 + 4 * k)) 64 l.i l.starts × ArrayFilling (λ (k : ℕ). u16 l.s (18 + 4 * k)) 64 l.i l.ends
