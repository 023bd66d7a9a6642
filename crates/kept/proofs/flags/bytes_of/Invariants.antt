use mir.Val.{bool_byte}
use Rattle.kept.specs.FlagsLaws.{Putting}
use Rattle.kept.proofs.flags.bytes_of.Given as goal

abbrev pub invariant-loop-i : goal.invariant-loop-i
invariant-loop-i l = Putting bool_byte l.flags l.initial.bytes 128 l.i l.bytes
