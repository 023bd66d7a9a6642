use Rattle.std.proofs.Common.{◌^◌, rules}
use Rattle.numbers.specs.Circle.{on_circle, steps-back}
use Rattle.numbers.specs.Numbering.{far}
use Rattle.numbers.proofs.circle.Ssn.distance.Goals as goal

pub returns : goal.returns
unfolding far on_circle
returns c =
    rw (steps-back (2 ^ 16) c.args.self.0 c.args.to.0 (search rules) (search rules), ← c.from.ensures) c.shorter_way.ensures
