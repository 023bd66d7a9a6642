use mathlib.Core.Path.{◌≡◌, refl, sym, ◌∙◌}
use mathlib.Core.List.{[]}
use borrow.Author.Tests.{ne_eqb}
use Rattle.std.specs.Prelude.{true, false, Ok, Err}
use Rattle.numbers.specs.Refusal.{refusal_number}
use Rattle.numbers.specs.RefusalLaws.{refusal-never-none}
use Rattle.sending.specs.SendingTableLaws.{bare-is}
use Rattle.acks.specs.Acks.{acked_of}
use Rattle.steps.specs.Verdict.{quiet}
use Rattle.steps.specs.Carrying.{is_last, sack_read, told_sack}
use Rattle.flat.specs.Shown.{bare}
use Rattle.rows.specs.TableRows.{answer_with, read_sack_received_by}
use Rattle.rows.specs.TableRowsLaws.{row-quiet-told}
use Rattle.rows.proofs.carrying.read_sack_received.Goals as goal

pub returns-then-is_empty : goal.returns-then-is_empty
unfolding read_sack_received_by
returns-then-is_empty c = let e = c.in-Ok.ensures in let l : is_last (answer_with (acked_of c.args.head.sender (Ok c.in-Ok.sender)) c.hear_sack.new.places []) ≡ true = bare-is _ ∙ sym c.is_empty.ensures ∙ c.if-is_empty.true in rw (← e.0, ← e.1, l) (c.acknowledge_shutdown.ensures.0, refl, c.acknowledge_shutdown.ensures.1)

pub returns-else-is_empty : goal.returns-else-is_empty
unfolding read_sack_received_by
returns-else-is_empty c = let e = c.in-Ok.ensures in let l : is_last (answer_with (acked_of c.args.head.sender (Ok c.in-Ok.sender)) c.hear_sack.new.places []) ≡ false = bare-is _ ∙ sym c.is_empty.ensures ∙ c.if-is_empty.false in rw (← e.0, ← e.1, l) (let t = row-quiet-told c.args.space.now (sack_read (bare c.args.head) (answer_with (acked_of c.args.head.sender (Ok c.in-Ok.sender)) [] [])) refl c.sack_read.ensures in (t.0, refl, t.1))

pub returns-in-Err : goal.returns-in-Err
unfolding read_sack_received_by
returns-in-Err c = let e = c.in-Err.ensures in let n = ne_eqb (refusal_number c.in-Err.refusal) 0 (refusal-never-none c.in-Err.refusal) in let l : is_last (answer_with (acked_of c.args.head.sender (Err c.in-Err.refusal)) c.hear_sack.new.places []) ≡ false = rw n in rw (← e.0, ← e.1, l) (let t = row-quiet-told c.args.space.now (quiet (bare c.args.head) (told_sack (refusal_number c.in-Err.refusal))) refl c.sack_read-in-Err.ensures in (t.0, refl, t.1))
