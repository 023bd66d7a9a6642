use Rattle.std.proofs.Common.{◌+◌, ◌%◌, ◌^◌, rules, sym}
use Rattle.numbers.specs.Circle.{steps-back}
use Rattle.numbers.specs.Numbering.{key}
use Rattle.numbers.proofs.circle.Tsn.key.Goals as goal

pub returns : goal.returns
unfolding key
returns c = sym (steps-back (2 ^ 32) ((c.args.self.0 + 2 ^ 31) % 2 ^ 32) c.args.of.0 (search rules) (search rules))
