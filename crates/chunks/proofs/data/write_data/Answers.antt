use Rattle.std.proofs.Common.{rules, arith, ◌≤◌, length}
use Rattle.chunks.specs.DataLaws.{data-not, data-wrote}
use Rattle.chunks.proofs.data.write_data.Goals as goal

pub returns-then-not-contains : goal.returns-then-not-contains
returns-then-not-contains c = data-not c.args.d c.args.payload.now (search rules)

pub returns : goal.returns
returns c =
    let h : (1 ≤ length c.args.payload.now) × (length c.args.payload.now ≤ 512) = search rules in
    data-wrote c.args.d _ h.1 (λ e. omega (arith, e, h.0)) _ c.flags.ensures c.halves.ensures c.write.ensures
