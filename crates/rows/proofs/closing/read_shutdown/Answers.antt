use mathlib.Core.Path.{◌≡◌, refl, sym, ◌∙◌}
use mathlib.Core.List.{[]}
use borrow.Author.Tests.{ne_eqb}
use Rattle.std.specs.Prelude.{true, false, Ok, Err}
use Rattle.numbers.specs.Refusal.{refusal_number}
use Rattle.numbers.specs.RefusalLaws.{refusal-never-none}
use Rattle.sending.specs.SendingTableLaws.{bare-is}
use Rattle.acks.specs.Acks.{acked_of}
use Rattle.states.specs.declared.state.State.TheVariants.{ShutdownReceived}
use Rattle.steps.specs.declared.verdict.Event.TheVariants.{NoEvent}
use Rattle.association.specs.Fresh.{with_state, with_sending}
use Rattle.steps.specs.Verdict.{accepted, refused}
use Rattle.steps.specs.Carrying.{sack_call, is_last}
use Rattle.flat.specs.Shown.{bare}
use Rattle.rows.specs.TableRows.{answer_with, read_shutdown_by}
use Rattle.rows.specs.TableRowsLaws.{row-quiet-told}
use Rattle.rows.proofs.closing.read_shutdown.Goals as goal

pub returns-then-is_empty : goal.returns-then-is_empty
unfolding read_shutdown_by
returns-then-is_empty c = let e = c.in-Ok.ensures in let l : is_last (answer_with (acked_of c.args.head.sender (Ok c.in-Ok.sender)) c.hear_shutdown.new.places []) ≡ true = bare-is _ ∙ sym c.is_empty.ensures ∙ c.if-is_empty.true in rw (← e.0, ← e.1, l) (c.acknowledge_shutdown.ensures.0, refl, c.acknowledge_shutdown.ensures.1)

pub returns-else-is_empty : goal.returns-else-is_empty
unfolding read_shutdown_by
returns-else-is_empty c = let e = c.in-Ok.ensures in let l : is_last (answer_with (acked_of c.args.head.sender (Ok c.in-Ok.sender)) c.hear_shutdown.new.places []) ≡ false = bare-is _ ∙ sym c.is_empty.ensures ∙ c.if-is_empty.false in rw (← e.0, ← e.1, l) (let t = row-quiet-told c.args.space.now (accepted (with_state (with_sending (bare c.args.head) (answer_with (acked_of c.args.head.sender (Ok c.in-Ok.sender)) [] []).sending) ShutdownReceived) NoEvent []) refl (rw c.moved.ensures at c.accepted.ensures) in (t.0, refl, t.1))

pub returns-in-Err : goal.returns-in-Err
unfolding read_shutdown_by
returns-in-Err c = let e = c.in-Err.ensures in let n = ne_eqb (refusal_number c.in-Err.refusal) 0 (refusal-never-none c.in-Err.refusal) in let l : is_last (answer_with (acked_of c.args.head.sender (Err c.in-Err.refusal)) c.hear_shutdown.new.places []) ≡ false = rw n in rw (← e.0, ← e.1, l, n) (let t = row-quiet-told c.args.space.now (refused (bare c.args.head) (refusal_number c.in-Err.refusal) (sack_call (refusal_number c.in-Err.refusal))) refl (rw (c.sack_call.ensures, c.number-number.ensures) at c.refused.ensures) in (t.0, refl, t.1))
