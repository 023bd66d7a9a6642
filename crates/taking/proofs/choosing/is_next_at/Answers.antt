use Prim.Native.Nat.{◌^◌}
use mathlib.Core.Path.{ap, ◌∙◌}
use Rattle.numbers.specs.Numbering.{ring}
use Rattle.numbers.specs.Profile.{rail}
use Rattle.holding.specs.Message.{is_expected}
use Rattle.tables.specs.Ssns.{ssns_of}
use Rattle.taking.proofs.choosing.is_next_at.Goals as goal

pub returns : goal.returns
returns c = c.is_expected.ensures ∙ ap (is_expected (ring (2 ^ 16)) rail (ssns_of rail c.args.next.now)) c.held_at.ensures
