use mathlib.Core.Path.{refl}
use Rattle.chunks.specs.ShutdownChunk.{shutdown_ack_bytes}
use Rattle.steps.specs.declared.verdict.Event.TheVariants.{NoEvent}
use Rattle.steps.specs.declared.verdict.Named.TheVariants.{NoCall}
use Rattle.steps.specs.Verdict.{accepted, refused}
use Rattle.steps.specs.Meeting.{repeat_ack}
use Rattle.flat.specs.Shown.{bare}
use Rattle.rows.specs.TableRowsLaws.{row-written-told, row-quiet-told}
use Rattle.rows.proofs.opening.repeat_ack.Goals as goal

pub returns-then-is_poor : goal.returns-then-is_poor
unfolding repeat_ack
returns-then-is_poor c = rw (← c.read_init.ensures, ← c.is_poor.ensures, c.if-is_poor.true) (row-quiet-told c.args.space.now (refused (bare c.args.head) 8 NoCall) refl c.refused.ensures)

pub returns : goal.returns
unfolding repeat_ack
returns c = rw (← c.read_init.ensures, ← c.is_poor.ensures, c.if-is_poor.false) (row-written-told (accepted (bare c.args.head) NoEvent shutdown_ack_bytes) c.write_shutdown_ack-n.ensures c.accepted.ensures)
