use Rattle.std.proofs.Common.{◌≡◌, ◌+◌, ◌-◌}
use Rattle.numbers.specs.Profile.{rail}
use Rattle.sender.specs.Seen.{blank_for}
use Rattle.sender.proofs.are_blank.Given as goal

abbrev pub invariant-loop-j : goal.invariant-loop-j
invariant-loop-j l = blank_for rail l.t l.j ((l.i + 8) - l.j) ≡ blank_for rail l.t l.i 8
