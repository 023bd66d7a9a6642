use Rattle.std.proofs.Common.{refl}
use Rattle.std.proofs.lemmas.Result.{err_from_is_err_and}
use Rattle.numbers.specs.RefusalLaws.{refusal-never-none}
use Rattle.calls.specs.AnswerLaws.{told-as, kept-quiet, kept-refused, kept-so}
use Rattle.calls.specs.Timers.{sampling}
use Rattle.flat.specs.Shown.{shown}
use Rattle.asks.specs.TableAnswerLaws.{refused-in, told_in, sampled-in}
use Rattle.asks.proofs.timers.rtt.Goals as goal

pub returns-in_err-permitted : goal.returns-in_err-permitted
unfolding sampling
returns-in_err-permitted c = λ ns ms cs. let p = err_from_is_err_and c.from_residual.result c.from_residual.ensures.1 in rw (p.1, p.2) (kept-refused (shown c.args.head c.args.held.now ns c.args.places.now ms cs) _ (c.in_err-permitted.ensures ns ms cs) (refusal-never-none _) (refused-in c.args.head c.args.held.now ns c.args.places.now ms cs refl))

pub returns : goal.returns
unfolding sampling
returns c = λ ns ms cs. kept-so (shown c.args.head c.args.held.now ns c.args.places.now ms cs) _ (c.in_ok-permitted.ensures ns ms cs) refl (kept-quiet _ (told-as (sampled-in c.args.head c.args.held.now ns c.args.places.now ms cs c.args.sample c.sampled-after.ensures c.with_sender.ensures) (told_in _ c.args.held.now ns c.args.places.now ms cs c.told.ensures)))
