use mathlib.Core.Path.{refl}
use mathlib.Core.List.{[]}
use Rattle.std.proofs.lemmas.Result.{err_from_is_err_and}
use Rattle.numbers.specs.RefusalLaws.{refusal-never-none}
use Rattle.numbers.specs.Profile.{rail}
use Rattle.sending.specs.SendingTableLaws.{bare-is}
use Rattle.sender.specs.Seen.{sending_shown}
use Rattle.states.specs.declared.state.State.TheVariants.{ShutdownPending, ShutdownSent}
use Rattle.states.specs.declared.call.Call.TheVariants.{Shutdown}
use Rattle.calls.specs.AnswerLaws.{roomy, told-as, done-quiet, done-sent, done_refused, done-so}
use Rattle.calls.specs.Closing.{shutting}
use Rattle.flat.specs.Shown.{shown}
use Rattle.asks.specs.TableAnswerLaws.{refused-in, told_in, moved_in}
use Rattle.asks.proofs.closing.shutdown.Goals as goal

pub returns-in_err-permitted : goal.returns-in_err-permitted
unfolding shutting
returns-in_err-permitted c = λ ns ms cs. let p = err_from_is_err_and c.from_residual.result c.from_residual.ensures.1 in rw (p.1, p.2) (done_refused (shown c.args.head c.args.held.now ns c.args.places.now ms cs) _ (c.in_err-permitted.ensures ns ms cs) (refusal-never-none _) (refused-in c.args.head c.args.held.now ns c.args.places.now ms cs refl))

pub send_shutdown-length-requires : goal.send_shutdown-length-requires
send_shutdown-length-requires c = roomy (shown c.args.head c.args.held.now [] c.args.places.now [] []) c.args.out.now Shutdown (c.in_ok-permitted.ensures [] [] []) refl

pub returns-then-is_empty : goal.returns-then-is_empty
unfolding shutting
returns-then-is_empty c = λ ns ms cs. done-so (shown c.args.head c.args.held.now ns c.args.places.now ms cs) _ (c.in_ok-permitted.ensures ns ms cs) refl (rw (bare-is (sending_shown rail c.args.head.sender c.args.places.now ms), ← c.is_empty.ensures, c.if-is_empty.true) (done-sent _ c.send_shutdown-length.ensures (told-as (moved_in c.args.head c.args.held.now ns c.args.places.now ms cs (ShutdownSent 0) c.moved.ensures) (told_in _ c.args.held.now ns c.args.places.now ms cs c.told.ensures))))

pub returns : goal.returns
unfolding shutting
returns c = λ ns ms cs. done-so (shown c.args.head c.args.held.now ns c.args.places.now ms cs) _ (c.in_ok-permitted.ensures ns ms cs) refl (rw (bare-is (sending_shown rail c.args.head.sender c.args.places.now ms), ← c.is_empty.ensures, c.if-is_empty.false) (done-quiet _ (told-as (moved_in c.args.head c.args.held.now ns c.args.places.now ms cs ShutdownPending c.moved-2.ensures) (told_in _ c.args.held.now ns c.args.places.now ms cs c.told-2.ensures))))
