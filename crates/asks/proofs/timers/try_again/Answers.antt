use Rattle.calls.specs.AnswerLaws.{done-over}
use Rattle.calls.specs.Timers.{tried_to}
use Rattle.flat.specs.Shown.{shown}
use Rattle.asks.specs.TableAnswerLaws.{over-in, backed-in}
use Rattle.asks.proofs.timers.try_again.Goals as goal

pub returns-then-is_closed : goal.returns-then-is_closed
unfolding tried_to
returns-then-is_closed c = λ held ns places ms. rw (← c.is_closed.ensures, c.if-is_closed.true) (done-over (shown c.args.head held ns places ms c.args.kept.now) (over-in c.args.head held ns places ms c.args.kept.now c.over.ensures))

pub returns : goal.returns
unfolding tried_to
returns c = λ held ns places ms. rw (← c.is_closed.ensures, c.if-is_closed.false, ← backed-in c.args.head held ns places ms c.args.kept.now c.args.next c.backed_off.ensures) (c.ask_again.ensures held ns places ms)
