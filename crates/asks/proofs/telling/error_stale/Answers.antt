use mathlib.Core.Path.{refl}
use mathlib.Core.List.{[]}
use Rattle.std.proofs.lemmas.Result.{err_from_is_err_and}
use Rattle.numbers.specs.RefusalLaws.{refusal-never-none}
use Rattle.calls.specs.AnswerLaws.{roomy, done-sent, done_refused, done-so}
use Rattle.flat.specs.Shown.{shown}
use Rattle.asks.specs.TableAnswerLaws.{refused-in, told_in}
use Rattle.asks.specs.ReplyLaws.{earlier-first}
use Rattle.states.specs.declared.call.Call.TheVariants.{TellStale}
use Rattle.association.specs.Bounds.{earlier}
use Rattle.calls.specs.Telling.{telling_stale}
use Rattle.asks.proofs.telling.error_stale.Goals as goal

pub returns-in_err-permitted : goal.returns-in_err-permitted
unfolding telling_stale
returns-in_err-permitted c = λ ns ms cs. let p = err_from_is_err_and c.from_residual.result c.from_residual.ensures.1 in rw (p.1, p.2) (done_refused (shown c.args.head c.args.held.now ns c.args.places.now ms cs) _ (earlier-first _ (c.in_err-permitted.ensures ns ms cs) (refusal-never-none _)) (refusal-never-none _) (refused-in c.args.head c.args.held.now ns c.args.places.now ms cs refl))

pub returns-in_err-check : goal.returns-in_err-check
unfolding telling_stale
returns-in_err-check c = λ ns ms cs. let p = err_from_is_err_and c.from_residual-in_err-check.result c.from_residual-in_err-check.ensures.1 in rw (p.1, p.2) (done_refused (shown c.args.head c.args.held.now ns c.args.places.now ms cs) _ (λ i. earlier (c.in_ok-permitted.ensures ns ms cs i) (c.in_err-check.ensures i)) (refusal-never-none _) (refused-in c.args.head c.args.held.now ns c.args.places.now ms cs refl))

pub send_error-length-requires : goal.send_error-length-requires
send_error-length-requires c = roomy (shown c.args.head c.args.held.now [] c.args.places.now [] []) c.args.out.now TellStale (c.in_ok-permitted.ensures [] [] []) refl

pub returns : goal.returns
unfolding telling_stale
returns c = λ ns ms cs. done-so (shown c.args.head c.args.held.now ns c.args.places.now ms cs) _ (λ i. earlier (c.in_ok-permitted.ensures ns ms cs i) (c.in_ok-check.ensures i)) refl (done-sent _ c.send_error-length.ensures (told_in _ c.args.held.now ns c.args.places.now ms cs c.told.ensures))
