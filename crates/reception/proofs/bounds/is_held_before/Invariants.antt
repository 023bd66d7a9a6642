use lib.ListN.{take}
use Rattle.numbers.specs.Profile.{rail}
use Rattle.scans.specs.Scan.{Seeking}
use Rattle.holding.specs.Held.{holds}
use Rattle.tables.specs.HeldWords.{held_of}
use Rattle.reception.proofs.bounds.is_held_before.Given as goal

abbrev pub invariant-loop-before : goal.invariant-loop-before
invariant-loop-before l = Seeking (holds l.tsn.0) (take l.place (held_of rail l.words)) l.place l.before
