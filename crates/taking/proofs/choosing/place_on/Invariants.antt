use Rattle.numbers.specs.Profile.{rail}
use Rattle.scans.specs.Scan.{Finding}
use Rattle.holding.specs.Message.{continues}
use Rattle.tables.specs.HeldWords.{held_of}
use Rattle.taking.proofs.choosing.place_on.Given as goal

abbrev pub invariant-loop-place : goal.invariant-loop-place
invariant-loop-place l = Finding (continues l.first l.t.0) (held_of rail l.words) 128 l.place
