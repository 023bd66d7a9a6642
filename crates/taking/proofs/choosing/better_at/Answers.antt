use Prim.Native.Nat.{◌^◌}
use mathlib.Core.Path.{sym, ◌∙◌}
use Rattle.numbers.specs.Numbering.{ring, circles}
use Rattle.numbers.specs.Profile.{rail}
use Rattle.holding.specs.HoldingTableLaws.{tried-is}
use Rattle.tables.specs.HeldWords.{held_of}
use Rattle.tables.specs.Ssns.{ssns_of}
use Rattle.tables.specs.OpenLaws.{by-law}
use Rattle.taking.specs.FreeLaws.{late-not-better, tried-read}
use Rattle.taking.proofs.choosing.better_at.Goals as goal

pub returns-then-not-is_next_at : goal.returns-then-not-is_next_at
returns-then-not-is_next_at c = (rw (late-not-better circles rail _ c.args.point.0 c.args.best _ (sym c.is_next_at.ensures ∙ c.if-not-is_next_at.true)), c.requires.1)

pub returns-in-None : goal.returns-in-None
returns-in-None c = (tried-read circles rail (held_of rail c.args.words.now) (ssns_of rail c.args.next.now) c.args.point.0 c.args.place c.args.best c.held_at-h.ensures (sym c.is_better.ensures ∙ c.if-not-is_better.false) (by-law (tried-is (ring (2 ^ 32)) rail (held_of rail c.args.words.now) c.args.point.0 c.args.best c.args.place c.held_at-h.result) (rw (← c.in-None.ensures.run))), c.in-None.ensures.long)

pub returns-in-Some : goal.returns-in-Some
returns-in-Some c = (tried-read circles rail (held_of rail c.args.words.now) (ssns_of rail c.args.next.now) c.args.point.0 c.args.place c.args.best c.held_at-h.ensures (sym c.is_better.ensures ∙ c.if-not-is_better.false) (by-law (tried-is (ring (2 ^ 32)) rail (held_of rail c.args.words.now) c.args.point.0 c.args.best c.args.place c.held_at-h.result) (rw (← c.in-Some.ensures.run, c.key.ensures))), c.in-Some.ensures.long)
