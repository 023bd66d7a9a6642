use Rattle.std.proofs.Common.{rules}
use Rattle.parameters.specs.StaleLaws.{crooked-is}
use Rattle.parameters.proofs.stale.crooked.Goals as goal

pub returns : goal.returns
returns c = crooked-is _ _ (λ e. search rules) (λ e. search rules)
