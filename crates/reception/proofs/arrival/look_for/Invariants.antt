use Prim.Native.Nat.{◌-◌, ◌^◌, ◌≤◌}
use Rattle.numbers.specs.Numbering.{ring}
use Rattle.numbers.specs.Profile.{rail}
use Rattle.tables.specs.HeldWords.{held_of}
use Rattle.delivery.specs.LookLaws.{Looking}
use Rattle.reception.proofs.arrival.look_for.Given as goal

abbrev pub invariant-loop-place : goal.invariant-loop-place
invariant-loop-place l = Looking (ring (2 ^ 32)) rail l.keeping (held_of rail l.words) l.new l.from l.low l.held l.clash × (l.from ≤ 128)

abbrev pub decreases-loop-place : goal.decreases-loop-place
decreases-loop-place l = 128 - l.from
