use borrow.Author.Tests.{lt-ltb, le-ltb}
use Rattle.std.proofs.Common.{◌≡◌, ℕ, ◌+◌, min, ap, ◌∙◌, lit<}
use Rattle.scans.specs.Upto.{smaller}
use Rattle.path.specs.Control.{grown_steady}
use Rattle.scans.specs.Upto.{min-smaller}
use Rattle.path.specs.LeastLaws.{sum-capped}
use Rattle.path.proofs.control.Control.grown_steady.Goals as goal

pub returns-then-flight-self : goal.returns-then-flight-self
unfolding grown_steady
returns-then-flight-self c = let s : c.min-sum.result ≡ smaller (c.args.self.partial + c.args.newly) 1048576 = c.min-sum.ensures ∙ ap (λ (n : ℕ). min n 1048576) c.saturating_add.ensures ∙ sum-capped (c.args.self.partial) (c.args.newly) 1048576 (lit< tt) in let m : c.min.result ≡ smaller c.min-sum.result c.args.self.cwnd = c.min.ensures ∙ min-smaller _ _ in rw (lt-ltb _ _ c.if-flight-self.true, m, s)

pub returns-then-sum-self : goal.returns-then-sum-self
unfolding grown_steady
returns-then-sum-self c = let s : c.min-sum.result ≡ smaller (c.args.self.partial + c.args.newly) 1048576 = c.min-sum.ensures ∙ ap (λ (n : ℕ). min n 1048576) c.saturating_add.ensures ∙ sum-capped (c.args.self.partial) (c.args.newly) 1048576 (lit< tt) in rw (le-ltb _ _ c.if-flight-self.false, ← s, lt-ltb _ _ c.if-sum-self.true)

pub returns-else-sum-self : goal.returns-else-sum-self
unfolding grown_steady
returns-else-sum-self c = let s : c.min-sum.result ≡ smaller (c.args.self.partial + c.args.newly) 1048576 = c.min-sum.ensures ∙ ap (λ (n : ℕ). min n 1048576) c.saturating_add.ensures ∙ sum-capped (c.args.self.partial) (c.args.newly) 1048576 (lit< tt) in let e : c.min-else-sum-self.result ≡ smaller (c.args.self.cwnd + 528) 1048576 = c.min-else-sum-self.ensures ∙ ap (λ (n : ℕ). min n 1048576) c.saturating_add-else-sum-self.ensures ∙ sum-capped (c.args.self.cwnd) (528) 1048576 (lit< tt) in rw (le-ltb _ _ c.if-flight-self.false, ← s, le-ltb _ _ c.if-sum-self.false, e)
