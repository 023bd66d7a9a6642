use Rattle.std.proofs.Common.{sym, ◌∙◌}
use Rattle.arriving.specs.ReplyLaws.{not-ended, ended}
use Rattle.landing.specs.TableWalk.{bare_walked}
use borrow.Author.Rules.{rules}
use Rattle.landing.proofs.reply.end_reply.Goals as goal

pub returns-then-not-is_shutdown_due : goal.returns-then-not-is_shutdown_due
returns-then-not-is_shutdown_due c = (not-ended (bare_walked c.args.w) _ c.requires.1 c.requires.0 (sym c.is_shutdown_due.ensures ∙ c.if-not-is_shutdown_due.true), c.requires.0)

pub overflow_add-result : goal.overflow_add-result
overflow_add-result c = search (rules, (ended (bare_walked c.args.w) c.args.scratch.now c.requires.1 c.requires.0 (sym c.is_shutdown_due.ensures ∙ c.if-not-is_shutdown_due.false) c.write_shutdown.ensures).1)

pub returns : goal.returns
returns c = ended (bare_walked c.args.w) c.args.scratch.now c.requires.1 c.requires.0 (sym c.is_shutdown_due.ensures ∙ c.if-not-is_shutdown_due.false) c.write_shutdown.ensures
