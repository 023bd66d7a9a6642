use Rattle.kept.specs.Flags.{is_yes}
use Rattle.kept.specs.FlagsLaws.{Putting}
use Rattle.kept.proofs.flags.flags_of.Given as goal

abbrev pub invariant-loop-i : goal.invariant-loop-i
invariant-loop-i l = Putting is_yes l.bytes l.initial.flags 128 l.i l.flags
