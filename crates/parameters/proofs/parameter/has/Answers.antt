use Rattle.std.proofs.Common.{◌∙◌}
use Rattle.parameters.specs.ParameterLaws.{params-is, there-found}
use Rattle.parameters.proofs.parameter.has.Goals as goal

pub returns : goal.returns
returns c = c.is_some.ensures ∙ there-found _ _ (params-is c.args.s.now c.of.ensures c.parameters.ensures.0) _ c.first_of.ensures
