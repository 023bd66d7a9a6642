use Rattle.std.proofs.Common.{◌+◌, ◌++◌}
use Rattle.octets.specs.Writing.{items}
use Rattle.chunks.specs.SackChunk.{block_at, dup_at}
use Rattle.chunks.specs.SackLaws.{RowsSpell, sack_ahead}
use Rattle.chunks.proofs.sack.write_sack.Given as goal

abbrev pub invariant-loop-i : goal.invariant-loop-i
invariant-loop-i l = RowsSpell 83 l.rows (3 + l.i) (sack_ahead l.k) (block_at l.k.blocks.starts l.k.blocks.ends) l.i

abbrev pub invariant-loop-j : goal.invariant-loop-j
invariant-loop-j l = RowsSpell 83 l.rows (3 + l.b + l.j) (sack_ahead l.k ++ items (block_at l.k.blocks.starts l.k.blocks.ends) 0 l.k.blocks.count) (dup_at l.k.dups) l.j
