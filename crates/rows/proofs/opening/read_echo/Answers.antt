use mathlib.Core.Path.{refl, ap, ◌∙◌}
use Rattle.steps.specs.declared.verdict.Named.TheVariants.{NoCall, ErrorStale}
use Rattle.steps.specs.Verdict.{refused, leaving_unread}
use Rattle.steps.specs.Meeting.{read_echo}
use Rattle.flat.specs.Shown.{bare}
use Rattle.rows.specs.Stepped.{unread_of}
use Rattle.rows.specs.TableRows.{is_starting}
use Rattle.rows.specs.TableRowsLaws.{row-quiet-told}
use Rattle.rows.proofs.opening.read_echo.Goals as goal

pub returns-then-is_odd : goal.returns-then-is_odd
unfolding read_echo is_starting
returns-then-is_odd c = rw (← c.cookie-p.ensures.0, ← c.is_odd.ensures, c.if-is_odd.true) (let t = row-quiet-told c.args.space.now (leaving_unread (refused (bare c.args.head) 8 NoCall)) refl (c.ending.ensures ∙ ap unread_of c.refused.ensures) in (t.0, refl, refl, refl, refl, refl, t.1))

pub returns-in-Good : goal.returns-in-Good
unfolding read_echo is_starting
returns-in-Good c = rw (← c.cookie-p.ensures.0, ← c.is_odd.ensures, c.if-is_odd.false, c.in-Good.is, ← c.action_of-action.ensures) c.act.ensures

pub returns-in-Stale : goal.returns-in-Stale
unfolding read_echo is_starting
returns-in-Stale c = rw (← c.cookie-p.ensures.0, ← c.is_odd.ensures, c.if-is_odd.false, c.in-Stale.is) (let t = row-quiet-told c.args.space.now (leaving_unread (refused (bare c.args.head) 27 ErrorStale)) refl (c.ending-in-Stale.ensures ∙ ap unread_of c.refused-in-Stale.ensures) in (t.0, refl, refl, refl, refl, refl, t.1))

pub returns-in-Bad : goal.returns-in-Bad
unfolding read_echo is_starting
returns-in-Bad c = rw (← c.cookie-p.ensures.0, ← c.is_odd.ensures, c.if-is_odd.false, c.in-Bad.is) (let t = row-quiet-told c.args.space.now (leaving_unread (refused (bare c.args.head) 27 NoCall)) refl (c.ending-in-Bad.ensures ∙ ap unread_of c.refused-in-Bad.ensures) in (t.0, refl, refl, refl, refl, refl, t.1))
