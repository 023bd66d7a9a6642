use borrow.Author.Rules.{rules}
use mathlib.Core.Path.{refl}
use Rattle.kept.specs.FlagsLaws.{put-more, put-end}
use Rattle.kept.proofs.flags.bytes_of.Goals as goal

pub loop-i-init : goal.loop-i-init
loop-i-init c = record { folding = record { long = search rules; rest = refl }; wide = refl }

pub loop-i-preserved : goal.loop-i-preserved
loop-i-preserved c = put-more c.loop-i.invariant _ _ (search rules) c.byte_of.ensures

pub returns : goal.returns
returns c = put-end c.loop-i.invariant refl (search rules)
