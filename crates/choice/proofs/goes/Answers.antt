use Rattle.std.proofs.Common.{inl, inr, arith, ◌∙◌, le-ltb, lt-ltb, eq-eqb, ne_eqb, le-leb}
use borrow.Author.Tests.{lt-leb}
use Rattle.sending.specs.SendingTableLaws.{goes-is}
use Rattle.tables.specs.OpenLaws.{by-law}
use Rattle.choice.proofs.goes.Goals.{then-b-ge-NONE-via-then-b-ge-NONE, then-b-ge-NONE-via-else-b-ge-NONE+then-path, then-b-lt-WAITING, else-b-lt-WAITING}
use Rattle.choice.proofs.goes.Goals as goal

pub returns-then-b-ge-NONE : goal.returns-then-b-ge-NONE
returns-then-b-ge-NONE c =
    elim c.then-b-ge-NONE.branch [
      | then-b-ge-NONE-via-then-b-ge-NONE w ↦ by-law (goes-is _ _ _) (rw (le-leb _ _ w.if-b-ge-NONE.true))
      | then-b-ge-NONE-via-else-b-ge-NONE+then-path w ↦ by-law (goes-is _ _ _) (rw (lt-leb _ _ w.if-b-ge-NONE.false, le-leb _ _ w.if-path.true))
    ]

pub returns-then-l-size : goal.returns-then-l-size
returns-then-l-size c = by-law (goes-is _ _ _) (rw (lt-leb _ _ c.if-b-ge-NONE.false, lt-leb _ _ c.if-path.false, ← c.size.ensures, lt-ltb _ _ c.if-l-size.true))

pub returns-then-path-eq0 : goal.returns-then-path-eq0
returns-then-path-eq0 c =
    elim c.if-b-lt-WAITING.branch [
      | then-b-lt-WAITING w ↦ by-law (goes-is _ _ _) (rw (lt-leb _ _ c.if-b-ge-NONE.false, lt-leb _ _ c.if-path.false, ← c.size.ensures, le-ltb _ _ c.if-l-size.false, lt-ltb _ _ w.if-b-lt-WAITING.true) (w.t-12-is ∙ lt-ltb _ _ w.if-b-lt-WAITING.true))
      | else-b-lt-WAITING w ↦ elim c.if-path-eq0.either [
        | inl h ↦ absurd (omega (arith, h, w.if-b-lt-WAITING.false))
        | inr h ↦ by-law (goes-is _ _ _) (rw (lt-leb _ _ c.if-b-ge-NONE.false, lt-leb _ _ c.if-path.false, ← c.size.ensures, le-ltb _ _ c.if-l-size.false, le-ltb _ _ h.0, eq-eqb _ _ h.1) (w.t-12-is ∙ eq-eqb _ _ h.1))
      ]
    ]

pub returns-else-path-eq0 : goal.returns-else-path-eq0
returns-else-path-eq0 c = by-law (goes-is _ _ _) (rw (lt-leb _ _ c.if-b-ge-NONE.false, lt-leb _ _ c.if-path.false, ← c.size.ensures, le-ltb _ _ c.if-l-size.false, le-ltb _ _ c.if-path-eq0.false.0, ne_eqb _ _ c.if-path-eq0.false.1, c.from.ensures, c.saturating_sub-window.ensures))
