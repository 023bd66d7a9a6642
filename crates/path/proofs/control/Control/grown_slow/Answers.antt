use Rattle.std.proofs.Common.{◌≡◌, ℕ, ◌+◌, min, ap, ◌∙◌, lit<}
use Rattle.scans.specs.Upto.{smaller}
use Rattle.path.specs.Sizes.{sizes_of}
use Rattle.path.specs.Control.{grown_slow}
use Rattle.scans.specs.Upto.{min-smaller}
use Rattle.path.specs.LeastLaws.{sum-capped}
use Rattle.path.proofs.control.Control.grown_slow.Goals as goal

pub returns : goal.returns
unfolding grown_slow
returns c = let g : c.min-growth.result ≡ smaller c.args.newly (sizes_of c.args.mode).pmdcs = rw c.of.ensures at (c.min-growth.ensures ∙ min-smaller _ _) in let e : c.min.result ≡ smaller (c.args.self.cwnd + c.min-growth.result) 1048576 = c.min.ensures ∙ ap (λ (n : ℕ). min n 1048576) c.saturating_add.ensures ∙ sum-capped (c.args.self.cwnd) (c.min-growth.result) 1048576 (lit< tt) in rw (e, g)
