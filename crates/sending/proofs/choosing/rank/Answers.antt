use Rattle.std.proofs.Common.{ℕ, ◌+◌, rules, ap, ◌∙◌, eq-eqb, ne_eqb}
use Rattle.sending.specs.StepsLaws.{order-steps}
use Rattle.sending.specs.Choose.{rank_of}
use Rattle.sending.proofs.choosing.rank.Goals as goal

pub returns-then-p-eq-MARKED : goal.returns-then-p-eq-MARKED
unfolding rank_of
returns-then-p-eq-MARKED c = rw (eq-eqb _ _ c.if-p-eq-MARKED.true, ← c.offset.ensures) c.from.ensures

pub returns-then-p-eq-WAITING : goal.returns-then-p-eq-WAITING
unfolding rank_of
returns-then-p-eq-WAITING c = rw (ne_eqb _ _ c.if-p-eq-MARKED.false, eq-eqb _ _ c.if-p-eq-WAITING.true) (ap (λ (n : ℕ). 4294967296 + n) (c.from-then-p-eq-WAITING.ensures ∙ order-steps c.args.oldest c.args.p.chunk.order (search rules) (search rules)))

pub returns-else-p-eq-WAITING : goal.returns-else-p-eq-WAITING
unfolding rank_of
returns-else-p-eq-WAITING c = rw (ne_eqb _ _ c.if-p-eq-MARKED.false, ne_eqb _ _ c.if-p-eq-WAITING.false)
