use Prim.Native.Nat.{◌^◌, ◌<◌}
use Rattle.numbers.specs.Numbering.{ring}
use Rattle.numbers.specs.Profile.{rail}
use Rattle.holding.specs.MessageLaws.{RunGathering}
use Rattle.tables.specs.HeldWords.{held_of}
use Rattle.taking.proofs.choosing.gather.Given as goal

abbrev pub invariant-loop-n : goal.invariant-loop-n
invariant-loop-n l = RunGathering (ring (2 ^ 32)) (held_of rail l.words) l.first 128 l.place l.at l.here l.chunk l.n × (l.here < 128)
