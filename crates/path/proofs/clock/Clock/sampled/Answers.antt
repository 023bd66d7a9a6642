use Rattle.std.proofs.Common.{◌≡◌, ◌∙◌}
use Rattle.scans.specs.Upto.{smaller}
use Rattle.path.specs.Clock.{clock_sampled, apart}
use Rattle.scans.specs.Upto.{min-smaller}
use Rattle.path.specs.LeastLaws.{diff-apart}
use Rattle.path.proofs.clock.Clock.sampled.Goals as goal

pub returns-then-self : goal.returns-then-self
unfolding clock_sampled
returns-then-self c = let r : c.min-r.result ≡ smaller c.args.sample 60000 = c.min-r.ensures ∙ min-smaller c.args.sample 60000 in let d : c.abs_diff-apart.result ≡ apart c.args.self.srtt c.min-r.result = c.abs_diff-apart.ensures ∙ diff-apart c.args.self.srtt c.min-r.result in rw (c.if-self.true, ← r, ← d) (rw (c.from.ensures, c.from-then-self.ensures, c.from-then-self-2.ensures, c.from-then-self-3.ensures) at c.timed.ensures)

pub returns-else-self : goal.returns-else-self
unfolding clock_sampled
returns-else-self c = let r : c.min-r.result ≡ smaller c.args.sample 60000 = c.min-r.ensures ∙ min-smaller c.args.sample 60000 in rw (c.if-self.false, ← r) c.timed-else-self.ensures
