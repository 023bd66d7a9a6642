use Rattle.std.proofs.Common.{refl}
use Rattle.pages.specs.ReadingLaws.{spell-start}
use Rattle.pages.proofs.reading.spell.Goals as goal

pub loop-c-init : goal.loop-c-init
loop-c-init c = (spell-start _ _ _ c.plus-n.ensures, refl)
