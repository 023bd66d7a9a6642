use Prim.Native.Nat.{◌-◌, ◌^◌, ◌≤◌}
use Rattle.numbers.specs.Numbering.{ring}
use Rattle.numbers.specs.Profile.{rail}
use Rattle.scans.specs.Scan.{Seeking, Counting}
use Rattle.tables.specs.HeldWords.{held_of}
use Rattle.delivery.specs.Receiving.{is_low}
use Rattle.delivery.specs.ReceivingBounds.{is_unfit}
use Rattle.reception.specs.NoteLaws.{Checking}
use Rattle.reception.proofs.bounds.weight.Given as goal

abbrev pub invariant-loop-place : goal.invariant-loop-place
invariant-loop-place l = (Checking (held_of rail l.words) 128 l.seen l.from × Seeking (is_unfit rail) (held_of rail l.words) 128 l.from × Counting (is_low (ring (2 ^ 32)) l.keeping) (held_of rail l.words) 128 l.from l.low) × (l.from ≤ 128)

abbrev pub decreases-loop-place : goal.decreases-loop-place
decreases-loop-place l = 128 - l.from
