use borrow.Author.Tests.{lt-ltb, le-ltb}
use Rattle.std.proofs.Common.{◌≡◌, ℕ, ◌+◌, min, ap, ◌∙◌, lit<, inl, inr, arith}
use Rattle.scans.specs.Upto.{smaller}
use Rattle.path.specs.Control.{grown_old}
use Rattle.path.specs.LeastLaws.{sum-capped}
use Rattle.path.proofs.control.Control.grown_old.Goals.{then-flight-self, else-flight-self}
use Rattle.path.proofs.control.Control.grown_old.Goals as goal

pub returns-then-not-moved : goal.returns-then-not-moved
unfolding grown_old
returns-then-not-moved c = rw c.if-not-moved.true

pub returns-then-all-self : goal.returns-then-all-self
unfolding grown_old
returns-then-all-self c = let s : c.min-all.result ≡ smaller (c.args.self.partial + c.args.newly) 1048576 = c.min-all.ensures ∙ ap (λ (n : ℕ). min n 1048576) c.saturating_add.ensures ∙ sum-capped (c.args.self.partial) (c.args.newly) 1048576 (lit< tt) in elim c.if-flight-self.branch [
  | then-flight-self w ↦ rw (c.if-not-moved.false, lt-ltb _ _ w.if-flight-self.true, s)
  | else-flight-self w ↦ elim c.if-all-self.either [
    | inl h ↦ absurd (omega (arith, h, w.if-flight-self.false))
    | inr h ↦ rw (c.if-not-moved.false, le-ltb _ _ h.0, ← s, lt-ltb _ _ h.1)
  ]
]

pub returns-else-all-self : goal.returns-else-all-self
unfolding grown_old
returns-else-all-self c = let s : c.min-all.result ≡ smaller (c.args.self.partial + c.args.newly) 1048576 = c.min-all.ensures ∙ ap (λ (n : ℕ). min n 1048576) c.saturating_add.ensures ∙ sum-capped (c.args.self.partial) (c.args.newly) 1048576 (lit< tt) in let e : c.min.result ≡ smaller (c.args.self.cwnd + 576) 1048576 = c.min.ensures ∙ ap (λ (n : ℕ). min n 1048576) c.saturating_add-else-all-self.ensures ∙ sum-capped (c.args.self.cwnd) (576) 1048576 (lit< tt) in rw (c.if-not-moved.false, le-ltb _ _ c.if-all-self.false.0, ← s, le-ltb _ _ c.if-all-self.false.1, e)
