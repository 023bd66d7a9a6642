use borrow.Author.Tests.{lt-ltb, le-ltb}
use mathlib.Core.Path.{◌∙◌}
use Rattle.std.proofs.Common.{inl, inr}
use native.Mathlib.Omega.{arith}
use Rattle.places.specs.SackBlocks.{is_ill}
use Rattle.places.proofs.blocks.is_ill.Goals.{then-start-before, else-start-before}
use Rattle.places.proofs.blocks.is_ill.Goals as goal

pub returns-then-end-start : goal.returns-then-end-start
unfolding is_ill
returns-then-end-start c =
    elim c.if-start-before.branch [
      | then-start-before w ↦ rw (← c.from-start.ensures, ← c.last_end.ensures, ← c.from-before.ensures, lt-ltb _ _ w.if-start-before.true) (w.t-16-is ∙ lt-ltb _ _ w.if-start-before.true)
      | else-start-before w ↦ elim c.if-end-start.either [
        | inl h ↦ absurd (omega (arith, h, w.if-start-before.false))
        | inr h ↦ rw (← c.from-start.ensures, ← c.from-end.ensures, ← c.last_end.ensures, ← c.from-before.ensures, le-ltb _ _ h.0, lt-ltb _ _ h.1) (w.t-16-is ∙ lt-ltb _ _ h.1)
      ]
    ]

pub returns-else-end-start : goal.returns-else-end-start
unfolding is_ill
returns-else-end-start c = rw (← c.from-start.ensures, ← c.from-end.ensures, ← c.last_end.ensures, ← c.from-before.ensures, le-ltb _ _ c.if-end-start.false.0, le-ltb _ _ c.if-end-start.false.1)
