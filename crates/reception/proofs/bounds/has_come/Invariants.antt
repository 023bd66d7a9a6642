use lib.ListN.{length}
use Rattle.scans.specs.Scan.{Asking}
use Rattle.reception.specs.ReadLaws.{itself}
use Rattle.reception.proofs.bounds.has_come.Given as goal

abbrev pub invariant-loop-flag : goal.invariant-loop-flag
invariant-loop-flag l = Asking itself l.flags (length l.flags) l.flag-index l.some
