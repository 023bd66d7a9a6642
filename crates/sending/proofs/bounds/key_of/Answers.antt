use Rattle.std.proofs.Common.{ℕ, ◌+◌, rules, ap, ◌∙◌, eq-eqb, ne_eqb}
use Rattle.sending.specs.StepsLaws.{order-steps}
use Rattle.sending.specs.SendingBounds.{key_of}
use Rattle.sending.proofs.bounds.key_of.Goals as goal

pub returns-then-is_sent : goal.returns-then-is_sent
unfolding key_of
returns-then-is_sent c = rw (c.if-sent.true, ← c.is_sent.ensures, c.if-is_sent.true, ← c.offset.ensures) c.from.ensures

pub returns-else-is_sent : goal.returns-else-is_sent
unfolding key_of
returns-else-is_sent c = rw (c.if-sent.true, ← c.is_sent.ensures, c.if-is_sent.false)

pub returns-then-p-eq-WAITING : goal.returns-then-p-eq-WAITING
unfolding key_of
returns-then-p-eq-WAITING c = rw (c.if-sent.false, eq-eqb _ _ c.if-p-eq-WAITING.true) (ap (λ (n : ℕ). n + 1) (c.from-then-p-eq-WAITING.ensures ∙ order-steps c.args.oldest c.args.p.chunk.order (search rules) (search rules)))

pub returns-else-p-eq-WAITING : goal.returns-else-p-eq-WAITING
unfolding key_of
returns-else-p-eq-WAITING c = rw (c.if-sent.false, ne_eqb _ _ c.if-p-eq-WAITING.false)
