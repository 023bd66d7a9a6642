use mathlib.Core.Path.{refl, ap, ◌∙◌}
use borrow.Author.Tests.{ne_eqb}
use Rattle.std.proofs.lemmas.Result.{err_from_is_err_and}
use Rattle.numbers.specs.RefusalLaws.{refusal-never-none}
use Rattle.flat.specs.declared.head.Head.{Head}
use Rattle.asks.specs.TableAnswer.{told_with}
use Rattle.asks.specs.TableTimersLaws.{lapse-by, lapse-refused}
use Rattle.asks.proofs.timers.t3.Goals as goal

pub returns-in_err-permitted : goal.returns-in_err-permitted
returns-in_err-permitted c = λ ns ms cs. let p = err_from_is_err_and c.from_residual.result c.from_residual.ensures.1 in rw (p.1, p.2) (lapse-refused c.args.head c.args.places.now (c.in_err-permitted.ensures ns ms cs) (refusal-never-none _) refl)

pub returns-in_err-after : goal.returns-in_err-after
returns-in_err-after c = λ ns ms cs. let p = err_from_is_err_and c.from_residual-in_err-after.result c.from_residual-in_err-after.ensures.1 in rw (p.1, p.2) (lapse-by c.args.head c.args.places.now (c.in_ok-permitted.ensures ns ms cs) refl c.in_err-after.ensures.value c.in_err-after.ensures.t_after (rw (ne_eqb _ 0 (refusal-never-none c.in_err-after.field-0.0))))

pub returns-in-Some : goal.returns-in-Some
returns-in-Some c = λ ns ms cs. lapse-by c.args.head c.args.places.now (c.in_ok-permitted.ensures ns ms cs) refl (rw c.in-Some.is at c.in_ok-after.ensures.value) c.in_ok-after.ensures.t_after (c.told.ensures ∙ ap (λ (x : Head). told_with x 0) c.with_sender.ensures)

pub returns-in-None : goal.returns-in-None
returns-in-None c = λ ns ms cs. lapse-by c.args.head c.args.places.now (c.in_ok-permitted.ensures ns ms cs) refl (rw c.in-None.is at c.in_ok-after.ensures.value) c.in_ok-after.ensures.t_after c.over.ensures
