use borrow.Author.Tests.{lt-ltb, le-ltb, lt-leb}
use Rattle.std.proofs.Common.{inl, inr, arith, ◌∙◌}
use Rattle.path.specs.Clock.{is_clock_within}
use Rattle.path.proofs.clock.Clock.is_within.Goals.{then-self-ge-RTO_LEAST, else-self-ge-RTO_LEAST, then-self-le-RTO_MOST, else-self-le-RTO_MOST}
use Rattle.path.proofs.clock.Clock.is_within.Goals as goal

pub returns-then-self-le-RTO_MOST-2 : goal.returns-then-self-le-RTO_MOST-2
unfolding is_clock_within
returns-then-self-le-RTO_MOST-2 c = let t = c.if-self-le-RTO_MOST-2.true in rw (le-ltb _ _ t.0, le-ltb _ _ t.1, le-ltb _ _ t.2)

pub returns-else-self-le-RTO_MOST-2 : goal.returns-else-self-le-RTO_MOST-2
unfolding is_clock_within
returns-else-self-le-RTO_MOST-2 c =
    elim c.if-self-le-RTO_MOST.branch [
      | then-self-le-RTO_MOST w ↦ elim c.if-self-le-RTO_MOST-2.either [
        | inl h ↦ rw (le-ltb _ _ h.0, le-ltb _ _ h.1, lt-ltb _ _ h.2) (w.t-3-is ∙ lt-leb _ _ h.2)
        | inr h ↦ elim h [
          | inl k ↦ absurd (omega (arith, k.1, w.if-self-le-RTO_MOST.true.1))
          | inr k ↦ absurd (omega (arith, k, w.if-self-le-RTO_MOST.true.0))
        ]
      ]
      | else-self-le-RTO_MOST w ↦ elim c.if-self-ge-RTO_LEAST.branch [
        | then-self-ge-RTO_LEAST v ↦ elim w.if-self-le-RTO_MOST.either [
          | inl k ↦ rw (le-ltb _ _ k.0, lt-ltb _ _ k.1) (w.t-3-is ∙ v.t-4-is ∙ lt-leb _ _ k.1)
          | inr k ↦ absurd (omega (arith, k, v.if-self-ge-RTO_LEAST.true))
        ]
        | else-self-ge-RTO_LEAST v ↦ rw (lt-ltb _ _ v.if-self-ge-RTO_LEAST.false) (w.t-3-is ∙ v.t-4-is ∙ lt-leb _ _ v.if-self-ge-RTO_LEAST.false)
      ]
    ]
