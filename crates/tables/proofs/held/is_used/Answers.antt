use Rattle.std.proofs.Common.{ap, le-ltb}
use Rattle.numbers.specs.Profile.{rail}
use Rattle.holding.specs.declared.Held.{Held}
use Rattle.tables.specs.HeldWords.{held_decoded}
use Rattle.tables.specs.HeldWordsLaws.{held_in, held-past}
use Rattle.tables.proofs.held.is_used.Goals as goal

pub returns-then-i-lt-PLACES : goal.returns-then-i-lt-PLACES
unfolding held_decoded
returns-then-i-lt-PLACES c = ap (λ (h : Held). h.used) (held_in rail _ c.args.i c.if-i-lt-PLACES.true)

pub returns-else-i-lt-PLACES : goal.returns-else-i-lt-PLACES
unfolding held_decoded
returns-else-i-lt-PLACES c = rw (le-ltb _ _ c.if-i-lt-PLACES.false) (ap (λ (h : Held). h.used) (held-past rail _ c.args.i c.if-i-lt-PLACES.false))
