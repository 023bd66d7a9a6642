use Rattle.std.proofs.Common.{◌∙◌, ap}
use Rattle.chunks.specs.Frame.{bytes_in}
use Rattle.parameters.specs.StaleLaws.{stale-there, stale-past}
use Rattle.parameters.proofs.stale.is_stale.Goals as goal

pub returns-then-at-b : goal.returns-then-at-b
returns-then-at-b c = stale-there c.args.s.now (c.of-b.ensures ∙ ap (bytes_in c.args.s.now) c.causes.ensures.0) c.first_item-at.ensures.0 c.if-at-b.true c.crooked.ensures

pub returns-else-at-b : goal.returns-else-at-b
returns-else-at-b c = stale-past c.args.s.now (c.of-b.ensures ∙ ap (bytes_in c.args.s.now) c.causes.ensures.0) c.first_item-at.ensures.0 c.if-at-b.false
