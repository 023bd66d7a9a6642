use Rattle.scans.specs.Upto.{Trying}
use Rattle.places.specs.SackBlocks.{block_has}
use Rattle.places.proofs.blocks.is_blocked.Given as goal

abbrev pub invariant-loop-j : goal.invariant-loop-j
invariant-loop-j l = Trying (block_has l.b l.d) l.j-end l.j
