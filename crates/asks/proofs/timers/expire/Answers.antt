use mathlib.Core.Path.{refl}
use mathlib.Core.List.{[]}
use Rattle.std.proofs.lemmas.Result.{err_from_is_err_and}
use Rattle.numbers.specs.RefusalLaws.{refusal-never-none}
use Rattle.calls.specs.AnswerLaws.{roomy, done_refused, done-so}
use Rattle.calls.specs.Timers.{expiring}
use Rattle.flat.specs.Shown.{shown}
use Rattle.asks.specs.TableAnswerLaws.{refused-in}
use Rattle.asks.proofs.timers.expire.Goals as goal

pub returns-in_err-permitted : goal.returns-in_err-permitted
unfolding expiring
returns-in_err-permitted c = λ ns ms. let p = err_from_is_err_and c.from_residual.result c.from_residual.ensures.1 in rw (p.1, p.2) (done_refused (shown c.args.head c.args.held.now ns c.args.places.now ms c.args.kept.now) _ (c.in_err-permitted.ensures ns ms c.args.kept.now) (refusal-never-none _) (refused-in c.args.head c.args.held.now ns c.args.places.now ms c.args.kept.now refl))

pub try_again-requires : goal.try_again-requires
try_again-requires c = roomy (shown c.args.head c.args.held.now [] c.args.places.now [] c.args.kept.now) c.args.out.now c.args.call (c.in_ok-permitted.ensures [] [] c.args.kept.now) refl

pub returns : goal.returns
unfolding expiring
returns c = λ ns ms. done-so (shown c.args.head c.args.held.now ns c.args.places.now ms c.args.kept.now) _ (c.in_ok-permitted.ensures ns ms c.args.kept.now) refl (rw (← c.tried_again-next.ensures) (c.try_again.ensures c.args.held.now ns c.args.places.now ms))
