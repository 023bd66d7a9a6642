use Rattle.calls.specs.AnswerLaws.{done-quiet, done-sent}
use Rattle.flat.specs.Shown.{shown}
use Rattle.asks.specs.TableAnswerLaws.{told_in}
use Rattle.asks.specs.TableTimersLaws.{asks-nothing}
use Rattle.asks.proofs.timers.ask_again.Goals as goal

pub returns-in-CookieWait : goal.returns-in-CookieWait
returns-in-CookieWait c = λ held ns places ms. rw c.in-CookieWait.is (done-sent _ c.send_init.ensures (told_in _ held ns places ms c.args.kept.now c.told.ensures))

pub returns-in-CookieEchoed : goal.returns-in-CookieEchoed
returns-in-CookieEchoed c = λ held ns places ms. rw c.in-CookieEchoed.is (done-sent _ c.send_cookie_echo-length.ensures (told_in _ held ns places ms c.args.kept.now c.told-in-CookieEchoed.ensures))

pub returns-in-ShutdownSent : goal.returns-in-ShutdownSent
returns-in-ShutdownSent c = λ held ns places ms. rw c.in-ShutdownSent.is (done-sent _ c.send_shutdown-length.ensures (told_in _ held ns places ms c.args.kept.now c.told-in-ShutdownSent.ensures))

pub returns-in-ShutdownAckSent : goal.returns-in-ShutdownAckSent
returns-in-ShutdownAckSent c = λ held ns places ms. rw c.in-ShutdownAckSent.is (done-sent _ c.send_shutdown_ack.ensures (told_in _ held ns places ms c.args.kept.now c.told-in-ShutdownAckSent.ensures))

pub returns-in_default : goal.returns-in_default
returns-in_default c = λ held ns places ms. rw (asks-nothing c.args.state (shown c.args.head held ns places ms c.args.kept.now) c.in_default.not-CookieWait c.in_default.not-CookieEchoed c.in_default.not-ShutdownSent c.in_default.not-ShutdownAckSent) (done-quiet _ (told_in _ held ns places ms c.args.kept.now c.told-in_default.ensures))
