use Rattle.numbers.specs.Profile.{rail}
use Rattle.scans.specs.Scan.{Counting}
use Rattle.holding.specs.Held.{is_held_free}
use Rattle.tables.specs.HeldWords.{held_of}
use Rattle.taking.proofs.choosing.free_places.Given as goal

abbrev pub invariant-loop-place : goal.invariant-loop-place
invariant-loop-place l = Counting is_held_free (held_of rail l.words) 128 l.place l.free
