use mathlib.Core.Path.{refl}
use mathlib.Core.List.{[]}
use Rattle.std.proofs.lemmas.Result.{err_from_is_err_and}
use Rattle.numbers.specs.RefusalLaws.{refusal-never-none}
use Rattle.states.specs.declared.call.Call.TheVariants.{Abort}
use Rattle.calls.specs.AnswerLaws.{roomy, done_refused, done-so}
use Rattle.calls.specs.Closing.{aborting}
use Rattle.flat.specs.Shown.{shown}
use Rattle.asks.specs.TableAnswerLaws.{refused-in}
use Rattle.asks.proofs.closing.abort.Goals as goal

pub returns-in_err-permitted : goal.returns-in_err-permitted
unfolding aborting
returns-in_err-permitted c = λ ns ms cs. let p = err_from_is_err_and c.from_residual.result c.from_residual.ensures.1 in rw (p.1, p.2) (done_refused (shown c.args.head c.args.held.now ns c.args.places.now ms cs) _ (c.in_err-permitted.ensures ns ms cs) (refusal-never-none _) (refused-in c.args.head c.args.held.now ns c.args.places.now ms cs refl))

pub end-requires : goal.end-requires
end-requires c = roomy (shown c.args.head c.args.held.now [] c.args.places.now [] []) c.args.out.now Abort (c.in_ok-permitted.ensures [] [] []) refl

pub returns : goal.returns
unfolding aborting
returns c = λ ns ms cs. done-so (shown c.args.head c.args.held.now ns c.args.places.now ms cs) _ (c.in_ok-permitted.ensures ns ms cs) refl (c.end.ensures c.args.held.now ns c.args.places.now ms cs)
