use Rattle.std.proofs.Common.{rules, ◌<◌, get_or, sym, ap, ◌∙◌, mod-eq_of_lt, ◌*◌}
use Rattle.numbers.specs.Profile.{rail}
use Rattle.holding.specs.declared.Held.{Held}
use Rattle.tables.specs.HeldWords.{held_decoded}
use Rattle.tables.specs.HeldWordsLaws.{held_in, held-past}
use Rattle.tables.proofs.held.tsn_at.Goals as goal

pub returns-then-i-lt-PLACES : goal.returns-then-i-lt-PLACES
unfolding held_decoded
returns-then-i-lt-PLACES c = sym (mod-eq_of_lt (let f : get_or c.args.t.now (4 * c.args.i) 0 < 4294967296 = search rules in f)) ∙ ap (λ (h : Held). h.tsn.0) (held_in rail _ c.args.i c.if-i-lt-PLACES.true)

pub returns-else-i-lt-PLACES : goal.returns-else-i-lt-PLACES
unfolding held_decoded
returns-else-i-lt-PLACES c = ap (λ (h : Held). h.tsn.0) (held-past rail _ c.args.i c.if-i-lt-PLACES.false)
