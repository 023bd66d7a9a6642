use Rattle.std.proofs.Common.{rules, ℕ, ◌<◌, get_or, sym, ap, ◌∙◌, mod-eq_of_lt}
use Rattle.numbers.specs.Profile.{rail}
use Rattle.numbers.specs.declared.circle.Ssn.{Ssn}
use Rattle.tables.specs.Ssns.{ssn-in, ssn-past}
use Rattle.tables.proofs.ssns.ssn_at.Goals as goal

pub returns-then-i-lt-STREAMS : goal.returns-then-i-lt-STREAMS
returns-then-i-lt-STREAMS c = ap (λ (n : ℕ). let x : Ssn = record { 0 = n } in x) (sym (mod-eq_of_lt (let f : get_or c.args.t.now c.args.i 0 < 65536 = search rules in f))) ∙ ssn-in rail _ c.args.i c.if-i-lt-STREAMS.true

pub returns-else-i-lt-STREAMS : goal.returns-else-i-lt-STREAMS
returns-else-i-lt-STREAMS c = ssn-past rail _ c.args.i c.if-i-lt-STREAMS.false
