use Rattle.std.proofs.Common.{arith}
use Rattle.std.proofs.lemmas.Grind.{common_steps}
use Prim.Native.Nat.{◌^◌}
use Rattle.numbers.specs.Numbering.{ring}
use Rattle.numbers.specs.Profile.{rail}
use Rattle.reception.specs.ReceptionLaws.{sound-any}
use Rattle.association.specs.Bounds.{is_sound}
use Rattle.flat.proofs.bounds.is_sound.Goals as goal

pub returns-then-is_sound : goal.returns-then-is_sound
unfolding is_sound
returns-then-is_sound c = λ ns ms cs.
    let e = sound-any (ring (2 ^ 32)) rail c.args.head.keeping c.args.held.now ns in
    grind (arith, common_steps, e, c.is_within.ensures ms)

pub returns-else-is_sound : goal.returns-else-is_sound
unfolding is_sound
returns-else-is_sound c = λ ns ms cs.
    let e = sound-any (ring (2 ^ 32)) rail c.args.head.keeping c.args.held.now ns in
    grind (arith, common_steps, e)
