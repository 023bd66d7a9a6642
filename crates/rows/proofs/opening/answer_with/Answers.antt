use mathlib.Core.Path.{refl}
use Rattle.steps.specs.VerdictLaws.{part_bytes}
use Rattle.steps.specs.declared.verdict.Named.TheVariants.{NoCall}
use Rattle.steps.specs.Verdict.{refused}
use Rattle.steps.specs.Opening.{answer_init}
use Rattle.flat.specs.Shown.{bare}
use Rattle.rows.specs.TableRowsLaws.{row-quiet-told}
use Rattle.rows.proofs.opening.answer_with.Goals as goal

pub returns-then-is_poor_lent : goal.returns-then-is_poor_lent
unfolding answer_init
returns-then-is_poor_lent c = rw (← c.is_poor_lent.ensures, c.if-is_poor_lent.true) (row-quiet-told c.args.space.now (refused (bare c.args.head) 8 NoCall) refl c.refused.ensures)

pub returns-then-is_poor : goal.returns-then-is_poor
unfolding answer_init
returns-then-is_poor c = rw (← c.is_poor_lent.ensures, c.if-is_poor_lent.false, ← c.read_init-v.ensures, ← c.is_poor.ensures, c.if-is_poor.true) (row-quiet-told c.args.space.now (refused (bare c.args.head) 8 NoCall) refl c.refused-then-is_poor.ensures)

pub returns-then-has_host_name : goal.returns-then-has_host_name
unfolding answer_init
returns-then-has_host_name c = (rw (← c.is_poor_lent.ensures, c.if-is_poor_lent.false, ← c.read_init-v.ensures, ← c.is_poor.ensures, c.if-is_poor.false, ← c.has_host_name.ensures, c.if-has_host_name.true, ← c.host_name-p.ensures.0, ← part_bytes c.host_name-p.result c.args.s.now, ← c.write_abort_address-n.ensures.count) c.answering.ensures, rw (← c.is_poor_lent.ensures, c.if-is_poor_lent.false, ← c.read_init-v.ensures, ← c.is_poor.ensures, c.if-is_poor.false, ← c.has_host_name.ensures, c.if-has_host_name.true, ← c.host_name-p.ensures.0, ← part_bytes c.host_name-p.result c.args.s.now) c.write_abort_address-n.ensures.bytes)

pub returns : goal.returns
unfolding answer_init
returns c = (rw (← c.is_poor_lent.ensures, c.if-is_poor_lent.false, ← c.read_init-v.ensures, ← c.is_poor.ensures, c.if-is_poor.false, ← c.has_host_name.ensures, c.if-has_host_name.false, ← c.ack_of-k.ensures, ← c.write_init_ack-n.ensures.count) c.answering-2.ensures, rw (← c.is_poor_lent.ensures, c.if-is_poor_lent.false, ← c.read_init-v.ensures, ← c.is_poor.ensures, c.if-is_poor.false, ← c.has_host_name.ensures, c.if-has_host_name.false, ← c.ack_of-k.ensures) c.write_init_ack-n.ensures.bytes)
