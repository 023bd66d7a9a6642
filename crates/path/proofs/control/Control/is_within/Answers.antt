use borrow.Author.Tests.{lt-ltb, le-ltb, lt-leb}
use Rattle.std.proofs.Common.{inl, inr, arith, ◌∙◌}
use Rattle.path.specs.Control.{is_control_within}
use Rattle.path.proofs.control.Control.is_within.Goals.{then-self-le-TOP, else-self-le-TOP}
use Rattle.path.proofs.control.Control.is_within.Goals as goal

pub returns-then-self-le-TOP-2 : goal.returns-then-self-le-TOP-2
unfolding is_control_within
returns-then-self-le-TOP-2 c = let t = c.if-self-le-TOP-2.true in rw (le-ltb _ _ t.0, le-ltb _ _ t.1)

pub returns-else-self-le-TOP-2 : goal.returns-else-self-le-TOP-2
unfolding is_control_within
returns-else-self-le-TOP-2 c = elim c.if-self-le-TOP.branch [
  | then-self-le-TOP w ↦ elim c.if-self-le-TOP-2.either [
    | inl h ↦ rw (le-ltb _ _ h.0, lt-ltb _ _ h.1) (w.t-3-is ∙ lt-leb _ _ h.1)
    | inr h ↦ absurd (omega (arith, h, w.if-self-le-TOP.true))
  ]
  | else-self-le-TOP w ↦ rw (lt-ltb _ _ w.if-self-le-TOP.false) (w.t-3-is ∙ lt-leb _ _ w.if-self-le-TOP.false)
]
