use Rattle.std.proofs.Common.{length}
use Rattle.scans.specs.Scan.{Folding}
use Rattle.pages.specs.Page.{spaced_at}
use Rattle.pages.proofs.page.say_rows.Given as goal

abbrev pub invariant-loop-i : goal.invariant-loop-i
invariant-loop-i l = Folding (spaced_at l.should) l.at l.s (length l.s) l.i l.to
