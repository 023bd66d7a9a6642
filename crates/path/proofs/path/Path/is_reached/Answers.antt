use mathlib.Core.Bool.{false}
use mathlib.Core.Path.{◌≡◌, refl}
use Rattle.numbers.specs.declared.circle.Judgement.{Judgement}
use Rattle.numbers.specs.declared.circle.Judgement.TheVariants.{AtOrBehind, AheadWithin, AheadBeyond, AtOpposite}
use Rattle.path.specs.Path.{reaches_point, is_reached}
use Rattle.path.proofs.path.Path.is_reached.Goals as goal

ahead : (j : Judgement) → (j ≡ AtOrBehind → ⊥) → false ≡ reaches_point j
ahead AtOrBehind n = absurd (n refl)
ahead (AheadWithin d) n = refl
ahead (AheadBeyond d) n = refl
ahead AtOpposite n = refl

pub returns-in-AtOrBehind : goal.returns-in-AtOrBehind
unfolding is_reached
returns-in-AtOrBehind c = rw (← c.judge.ensures, c.in-AtOrBehind.is)

pub returns-in_default : goal.returns-in_default
unfolding is_reached
returns-in_default c = rw (← c.judge.ensures) (ahead c.judge.result c.in_default.not-AtOrBehind)
