use Rattle.std.proofs.Common.{◌∙◌}
use Rattle.pages.specs.PageLaws.{same-is}
use Rattle.pages.proofs.page.same.Goals as goal

pub returns : goal.returns
returns c = c.eq.ensures ∙ same-is c.args.s.now c.args.t.now
