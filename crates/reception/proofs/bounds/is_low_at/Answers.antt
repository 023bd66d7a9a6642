use Prim.Native.Nat.{◌^◌}
use mathlib.Core.Path.{sym, ◌∙◌}
use Rattle.numbers.specs.Numbering.{ring, ahead_on}
use Rattle.numbers.specs.Profile.{rail}
use Rattle.delivery.specs.LowLaws.{low_flag_at}
use Rattle.reception.specs.ReadLaws.{none-set, low-unset}
use Rattle.reception.proofs.bounds.is_low_at.Goals as goal

pub returns-then-not-some : goal.returns-then-not-some
returns-then-not-some c = rw c.if-not-some.true (low-unset rail (ahead_on (ring (2 ^ 32)) c.args.point.0 c.args.tsn.0) (none-set c.args.come.now (sym c.requires ∙ c.if-not-some.true) (low_flag_at rail (ahead_on (ring (2 ^ 32)) c.args.point.0 c.args.tsn.0))))
