use Prim.Native.Nat.{◌-◌, ◌≤◌}
use mathlib.Core.Path.{◌≡◌}
use lib.ListN.{length}
use Rattle.numbers.specs.Numbering.{circles}
use Rattle.numbers.specs.Profile.{rail}
use Rattle.holding.specs.MessageLaws.{Choosing}
use Rattle.tables.specs.HeldWords.{held_of}
use Rattle.tables.specs.Ssns.{ssns_of}
use Rattle.taking.proofs.choosing.choose_by.Given as goal

abbrev pub invariant-loop-place : goal.invariant-loop-place
invariant-loop-place l = Choosing circles rail (held_of rail l.words) (ssns_of rail l.next) l.point.0 128 l.from l.best × (length l.at ≡ 128) × (l.from ≤ 128)

abbrev pub decreases-loop-place : goal.decreases-loop-place
decreases-loop-place l = 128 - l.from
