use mathlib.Core.Path.{refl, ap, ◌∙◌}
use mathlib.Core.List.{[]}
use Rattle.steps.specs.declared.verdict.Event.TheVariants.{NoEvent}
use Rattle.steps.specs.declared.verdict.Named.TheVariants.{NoCall}
use Rattle.steps.specs.Verdict.{accepted, refused, leaving_unread}
use Rattle.steps.specs.Meeting.{with_peer_tag, cookie_ack_bytes}
use Rattle.flat.specs.Shown.{bare}
use Rattle.rows.specs.Stepped.{unread_of}
use Rattle.rows.specs.TableRowsLaws.{row-written-told, accepted-told, row-quiet-told}
use Rattle.rows.proofs.opening.stay.Goals as goal

pub returns-in-Restart : goal.returns-in-Restart
returns-in-Restart c = rw c.in-Restart.is c.refuse_restart.ensures

pub returns-in-Retag : goal.returns-in-Retag
returns-in-Retag c = rw c.in-Retag.is (accepted-told (with_peer_tag (bare c.args.head) c.args.m.peer_tag) c.write_cookie_ack-n.ensures c.retagged.ensures c.accepted.ensures)

pub returns-in-Again : goal.returns-in-Again
returns-in-Again c = rw c.in-Again.is (row-written-told (accepted (bare c.args.head) NoEvent cookie_ack_bytes) c.write_cookie_ack-n-in-Again.ensures c.accepted-in-Again.ensures)

pub returns-in-Late : goal.returns-in-Late
returns-in-Late c = rw c.in-Late.is (row-quiet-told c.args.space.now (leaving_unread (accepted (bare c.args.head) NoEvent [])) refl (c.ending.ensures ∙ ap unread_of c.accepted-in-Late.ensures))

pub returns-in-Outside : goal.returns-in-Outside
returns-in-Outside c = rw c.in-Outside.is (row-quiet-told c.args.space.now (leaving_unread (refused (bare c.args.head) 7 NoCall)) refl (c.ending-in-Outside.ensures ∙ ap unread_of c.refused.ensures))
