use lib.ListN.{length}
use Rattle.numbers.specs.Profile.{rail}
use Rattle.scans.specs.Scan.{Summing}
use Rattle.holding.specs.Taking.{len_at}
use Rattle.tables.specs.HeldWords.{held_of}
use Rattle.taking.proofs.giving.length_of.Given as goal

abbrev pub invariant-loop-place : goal.invariant-loop-place
invariant-loop-place l = Summing (len_at (held_of rail l.words)) 65535 l.list (length l.list) l.place-index l.bytes
