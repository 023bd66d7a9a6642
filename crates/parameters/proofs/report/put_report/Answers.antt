use Rattle.std.proofs.Common.{refl}
use Rattle.parameters.specs.ReportLaws.{three-laid}
use Rattle.parameters.proofs.report.put_report.Goals as goal

pub returns-then-wrapped : goal.returns-then-wrapped
returns-then-wrapped c = rw c.if-wrapped.true (three-laid _ _ _ _ _ c.put_all.ensures c.put16-then-wrapped.ensures c.put16.ensures refl refl)
