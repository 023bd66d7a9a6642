use Rattle.kept.specs.FlagsLaws.{Putting}
use Rattle.face.specs.FaceAcknowledging.{tsn_number}
use Rattle.face.proofs.acknowledging.numbers_of.Given as goal

abbrev pub invariant-loop-i : goal.invariant-loop-i
invariant-loop-i l = Putting tsn_number l.tsns l.initial.numbers 16 l.i l.numbers
