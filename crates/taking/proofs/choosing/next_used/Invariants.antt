use Prim.Native.Nat.{◌-◌}
use Rattle.numbers.specs.Profile.{rail}
use Rattle.tables.specs.HeldWords.{held_of}
use Rattle.taking.specs.FreeLaws.{PassingFree}
use Rattle.taking.proofs.choosing.next_used.Given as goal

abbrev pub invariant-loop-i : goal.invariant-loop-i
invariant-loop-i l = PassingFree (held_of rail l.words) l.from l.i

abbrev pub decreases-loop-i : goal.decreases-loop-i
decreases-loop-i l = 128 - l.i
