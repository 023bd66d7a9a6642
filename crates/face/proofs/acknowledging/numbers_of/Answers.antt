use mathlib.Core.Path.{refl}
use borrow.Author.Rules.{rules}
use Rattle.kept.specs.FlagsLaws.{put-more, put-end}
use Rattle.scans.specs.Scan.{long-mapped}
use Rattle.face.proofs.acknowledging.numbers_of.Goals as goal

pub loop-i-init : goal.loop-i-init
loop-i-init c = record { folding = record { long = search (rules, long-mapped); rest = refl }; wide = refl }

pub bounds-tsns-i : goal.bounds-tsns-i
bounds-tsns-i c = search (rules, c.loop-i.invariant.folding.long)

pub bounds-numbers-i : goal.bounds-numbers-i
bounds-numbers-i c = search (rules, c.loop-i.invariant.wide)

pub loop-i-preserved : goal.loop-i-preserved
loop-i-preserved c = put-more c.loop-i.invariant _ _ c.loop-i-test.true refl

pub returns : goal.returns
returns c = put-end c.loop-i.invariant refl c.loop-i-test.false
