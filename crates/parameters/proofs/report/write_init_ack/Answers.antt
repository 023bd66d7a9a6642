use Rattle.std.proofs.Common.{rules, refl, arith, ◌≤◌, length}
use Rattle.parameters.specs.ParameterLaws.{params-is}
use Rattle.parameters.specs.ReportLaws.{init-ack-not, init-ack-wrote}
use Rattle.parameters.proofs.report.write_init_ack.Goals as goal

pub returns-then-not-contains : goal.returns-then-not-contains
returns-then-not-contains c = init-ack-not c.args.v c.args.cookie.now c.args.s.now (search rules)

pub returns : goal.returns
returns c =
    let h : (1 ≤ length c.args.cookie.now) × (length c.args.cookie.now ≤ 256) = search rules in
    init-ack-wrote c.args.v c.args.cookie.now c.args.s.now h.1 (λ e. omega (arith, e, h.0)) _ refl c.put16.ensures c.put16-2.ensures c.put_all.ensures (params-is c.args.s.now c.of.ensures c.parameters.ensures.0) c.gather-n.ensures c.write_fields.ensures
