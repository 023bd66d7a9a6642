use Prim.Native.Nat.{◌+◌, ◌-◌}
use mathlib.Core.Path.{◌≡◌}
use Rattle.numbers.specs.Profile.{rail}
use Rattle.tables.specs.HeldWords.{held_of}
use Rattle.taking.specs.TakeWords.{free_for}
use Rattle.taking.proofs.choosing.are_free.Given as goal

abbrev pub invariant-loop-place : goal.invariant-loop-place
invariant-loop-place l = free_for (held_of rail l.words) l.place (l.i + 8 - l.place) ≡ free_for (held_of rail l.words) l.i 8
