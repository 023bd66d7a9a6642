use mathlib.Core.Path.{refl}
use borrow.Author.Tests.{ne_eqb}
use Rattle.numbers.specs.Refusal.{refusal_number}
use Rattle.numbers.specs.RefusalLaws.{refusal-never-none}
use Rattle.steps.specs.Verdict.{refused}
use Rattle.steps.specs.Carrying.{sack_call}
use Rattle.flat.specs.Shown.{bare}
use Rattle.rows.specs.TableRows.{answer_shutdown_by}
use Rattle.rows.specs.TableRowsLaws.{row-quiet-told}
use Rattle.rows.proofs.closing.answer_shutdown.Goals as goal

pub returns-in-Ok : goal.returns-in-Ok
unfolding answer_shutdown_by
returns-in-Ok c = let e = c.in-Ok.ensures in rw (← e.0, ← e.1) (c.acknowledge_shutdown.ensures.0, refl, c.acknowledge_shutdown.ensures.1)

pub returns-in-Err : goal.returns-in-Err
unfolding answer_shutdown_by
returns-in-Err c = let e = c.in-Err.ensures in let n = ne_eqb (refusal_number c.in-Err.refusal) 0 (refusal-never-none c.in-Err.refusal) in rw (← e.0, ← e.1, n) (let t = row-quiet-told c.args.space.now (refused (bare c.args.head) (refusal_number c.in-Err.refusal) (sack_call (refusal_number c.in-Err.refusal))) refl (rw (c.sack_call.ensures, c.number-number.ensures) at c.refused.ensures) in (t.0, refl, t.1))
