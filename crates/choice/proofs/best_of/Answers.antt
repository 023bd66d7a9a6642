use Rattle.std.proofs.Common.{refl, ap, ◌∙◌, arith}
use Rattle.scans.specs.Scan.{fold_more, fold_end}
use Rattle.numbers.specs.Profile.{rail}
use Rattle.sending.specs.Choose.{better_place}
use Rattle.sending.specs.SendingTableLaws.{best-is}
use Rattle.tables.specs.OpenLaws.{by-law}
use Rattle.tables.specs.PlaceWords.{vacant}
use Rattle.tables.specs.PlaceWordsLaws.{places-long}
use Rattle.choice.proofs.best_of.Goals as goal

pub loop-i-init : goal.loop-i-init
loop-i-init c = (record { long = places-long rail _; rest = refl }, omega arith)

pub loop-i-preserved : goal.loop-i-preserved
loop-i-preserved c = (fold_more c.loop-i.invariant.0 vacant _ c.loop-i-test.true (c.better-b.ensures.0 ∙ ap (better_place c.args.acked c.args.oldest c.loop-i.b c.loop-i.i) c.place_at-p.ensures), c.better-b.ensures.1)

pub returns : goal.returns
returns c = (by-law (best-is _ _ _) (fold_end c.loop-i.invariant.0 c.loop-i-test.false), c.loop-i.invariant.1)
