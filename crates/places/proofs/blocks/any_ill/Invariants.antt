use Rattle.scans.specs.Upto.{Trying}
use Rattle.places.specs.SackBlocks.{is_ill}
use Rattle.places.proofs.blocks.any_ill.Given as goal

abbrev pub invariant-loop-j : goal.invariant-loop-j
invariant-loop-j l = Trying (is_ill l.b l.room) l.j-end l.j
