use Rattle.scans.specs.Scan.{fold_end}
use Rattle.pages.specs.Page.{rows_at}
use Rattle.pages.proofs.page.say_rows.Goals as goal

pub returns : goal.returns
unfolding rows_at
returns c = fold_end c.loop-i.invariant c.loop-i-test.false
