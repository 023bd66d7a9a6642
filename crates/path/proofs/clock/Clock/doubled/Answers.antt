use Rattle.std.proofs.Common.{◌≡◌, ℕ, ◌*◌, min, ap, ◌∙◌, lit<}
use Rattle.scans.specs.Upto.{smaller}
use Rattle.path.specs.Clock.{clock_doubled}
use Rattle.path.specs.LeastLaws.{twice-capped}
use Rattle.path.proofs.clock.Clock.doubled.Goals as goal

pub returns : goal.returns
unfolding clock_doubled
returns c = let e : c.min.result ≡ smaller (2 * c.args.self.rto) 60000 = c.min.ensures ∙ ap (λ (n : ℕ). min n 60000) c.saturating_mul.ensures ∙ twice-capped c.args.self.rto 60000 (lit< tt) in rw e
