use Rattle.std.proofs.Common.{rules, refl}
use Rattle.parameters.specs.ParameterLaws.{params-is}
use Rattle.parameters.specs.ReportLaws.{error-none, error-wrote}
use Rattle.parameters.proofs.report.write_error_parameters.Goals as goal

pub returns-then-n-eq0 : goal.returns-then-n-eq0
returns-then-n-eq0 c = error-none _ refl (search rules) (params-is c.args.s.now c.of.ensures c.parameters.ensures.0) c.gather-n.ensures c.if-n-eq0.true

pub returns : goal.returns
returns c = error-wrote _ refl (search rules) (params-is c.args.s.now c.of.ensures c.parameters.ensures.0) c.gather-n.ensures c.if-n-eq0.false c.write_caused.ensures
