use Rattle.sending.specs.SendingTableLaws.{gap_is}
use Rattle.tables.specs.OpenLaws.{by-law}
use Rattle.scans.specs.Scan.{or_either}
use Rattle.sender.specs.BlankLaws.{gap-start, gap_more, gap-end}
use Rattle.sender.proofs.has_gap.Goals as goal

pub loop-j-init : goal.loop-j-init
loop-j-init c = gap-start _ _

pub loop-j-preserved : goal.loop-j-preserved
loop-j-preserved c = gap_more c.loop-j.invariant c.loop-j-test.true (or_either c.loop-j.gap _)

pub returns : goal.returns
returns c = by-law (gap_is _ _) (gap-end c.loop-j.invariant c.loop-j-test.false)
