use mathlib.Core.Path.{◌≡◌, refl, sym, ◌∙◌}
use mathlib.Core.List.{[]}
use Rattle.std.specs.Prelude.{true, false, Ok}
use Rattle.sending.specs.SendingTableLaws.{bare-is}
use Rattle.acks.specs.Acks.{acked_of}
use Rattle.steps.specs.Carrying.{is_last}
use Rattle.rows.specs.TableRows.{answer_with, read_sack_pending_by}
use Rattle.rows.proofs.carrying.read_sack_pending.Goals as goal

pub returns-then-is_empty : goal.returns-then-is_empty
unfolding read_sack_pending_by
returns-then-is_empty c = let e = c.in-Ok.ensures in let l : is_last (answer_with (acked_of c.args.head.sender (Ok c.in-Ok.sender)) c.hear_sack.new.places []) ≡ true = bare-is _ ∙ sym c.is_empty.ensures ∙ c.if-is_empty.true in rw (← e.0, ← e.1, l) (c.owe_shutdown.ensures, refl)

pub returns-else-is_empty : goal.returns-else-is_empty
unfolding read_sack_pending_by
returns-else-is_empty c = let e = c.in-Ok.ensures in let l : is_last (answer_with (acked_of c.args.head.sender (Ok c.in-Ok.sender)) c.hear_sack.new.places []) ≡ false = bare-is _ ∙ sym c.is_empty.ensures ∙ c.if-is_empty.false in rw (← e.0, ← e.1, l) (c.sack_read.ensures, refl)
