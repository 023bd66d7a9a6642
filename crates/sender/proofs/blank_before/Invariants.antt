use Rattle.std.proofs.Common.{◌≡◌, ◌-◌, ◌≤◌, true}
use Rattle.numbers.specs.Profile.{rail}
use Rattle.sender.specs.Seen.{blank_for}
use Rattle.sender.proofs.blank_before.Given as goal

abbrev pub invariant-loop-i : goal.invariant-loop-i
invariant-loop-i l = (blank_for rail l.t 0 l.i ≡ true) × (l.i ≤ 128)

abbrev pub decreases-loop-i : goal.decreases-loop-i
decreases-loop-i l = 128 - l.i
