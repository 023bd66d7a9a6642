use mathlib.Core.Path.{ap, ◌∙◌}
use lib.ListN.{length}
use Rattle.octets.specs.WritingLaws.{wrote-within, wrote-both}
use Rattle.steps.specs.declared.meeting.Action.TheVariants.{Restart}
use Rattle.steps.specs.VerdictLaws.{few}
use Rattle.steps.specs.Meeting.{stays}
use Rattle.flat.specs.Shown.{bare}
use Rattle.rows.specs.Stepped.{unread_of}
use Rattle.rows.specs.TableRowsLaws.{row-written-told}
use Rattle.rows.specs.ShortLaws.{shut-short, shutting-short, both-short}
use borrow.Author.Rules.{rules}
use Rattle.rows.proofs.opening.refuse_restart.Goals as goal

pub slice_bounds-write_caused-count : goal.slice_bounds-write_caused-count
slice_bounds-write_caused-count c = search (rules, wrote-within c.write_shutdown_ack-n.ensures)

pub slice_bounds-write_caused-start : goal.slice_bounds-write_caused-start
slice_bounds-write_caused-start c = search (rules, wrote-within c.write_shutdown_ack-n.ensures)

pub overflow_add-n : goal.overflow_add-n
overflow_add-n c = search (rules, few c.write_shutdown_ack-n.ensures shut-short, few c.write_caused-k.ensures shutting-short)

pub returns : goal.returns
returns c = row-written-told (stays (length c.args.space.now) (bare c.args.head) c.args.m Restart) (wrote-both both-short c.write_shutdown_ack-n.ensures c.write_caused-k.ensures) (c.ending.ensures ∙ ap unread_of c.accepted.ensures)
