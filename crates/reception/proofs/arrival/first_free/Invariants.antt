use Rattle.numbers.specs.Profile.{rail}
use Rattle.scans.specs.Scan.{Finding}
use Rattle.holding.specs.Held.{is_held_free}
use Rattle.tables.specs.HeldWords.{held_of}
use Rattle.reception.proofs.arrival.first_free.Given as goal

abbrev pub invariant-loop-place : goal.invariant-loop-place
invariant-loop-place l = Finding is_held_free (held_of rail l.words) 128 l.place
