use Rattle.std.proofs.Common.{◌≡◌, take}
use Rattle.octets.specs.Bytes.{laid}
use Rattle.octets.proofs.bytes.put_all.Given as goal

abbrev pub invariant-loop-i : goal.invariant-loop-i
invariant-loop-i l = l.out ≡ laid l.initial.out l.at (take l.i l.src)
