use Rattle.std.proofs.Common.{refl, arith}
use Rattle.parameters.specs.ParameterLaws.{params-is, value-is, value_none, value-within}
use Rattle.parameters.proofs.parameter.find.Goals as goal

pub returns-in_default : goal.returns-in_default
returns-in_default c = (value_none _ _ (params-is c.args.s.now c.of-b.ensures c.parameters-p.ensures.0) refl _ c.in_default.ensures, omega arith)

pub returns : goal.returns
returns c =
    let f = c.in-Some.ensures in
    (value-is _ _ (params-is c.args.s.now c.of-b.ensures c.parameters-p.ensures.0) f.0 _ c.parameters-p.result c.part_from-v.result f.1 c.parameters-p.ensures.0 c.part_from-v.ensures.0, value-within _ c.parameters-p.result c.part_from-v.result _ _ c.of-b.ensures c.parameters-p.ensures.1 f.1 c.part_from-v.ensures.1)
