use Rattle.std.proofs.Common.{◌≡◌, ℕ, ◌-◌, ◌*◌, arith}
use Rattle.scans.specs.Upto.{pick_less}
use Rattle.messages.proofs.part_len.Goals as goal

pub returns : goal.returns
returns c = let left : ℕ = c.args.len - 512 * c.args.k in pick_less (λ (n : ℕ). c.min.result ≡ n) left 512 left 512 (λ h. omega (arith, c.min.ensures)) (λ h. omega (arith, c.min.ensures))
