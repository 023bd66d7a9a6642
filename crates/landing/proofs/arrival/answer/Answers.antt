use mathlib.Core.Path.{sym, ◌∙◌}
use Rattle.arriving.specs.ArrivalLaws.{chunks-are, answer-silent, answer-sent}
use Rattle.landing.specs.TableWalk.{bare_walked}
use Rattle.landing.proofs.arrival.answer.Goals as goal

pub returns-then-has_abort : goal.returns-then-has_abort
returns-then-has_abort c = answer-silent (bare_walked c.args.w) _ _ _ (rw (← chunks-are c.args.packet.now 12, ← c.part.ensures) (sym c.has_abort.ensures ∙ c.if-has_abort.true))

pub returns : goal.returns
returns c = answer-sent (bare_walked c.args.w) _ _ _ (rw (← chunks-are c.args.packet.now 12, ← c.part.ensures) (sym c.has_abort.ensures ∙ c.if-has_abort.false)) c.close_reply-n.result _ c.close_reply-n.ensures.0 (rw (← c.read_header.ensures) c.reply_head-h.ensures) c.send.ensures
