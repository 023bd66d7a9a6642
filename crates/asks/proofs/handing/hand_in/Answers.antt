use mathlib.Core.Path.{refl}
use Rattle.std.proofs.lemmas.Result.{err_from_is_err_and}
use Rattle.numbers.specs.RefusalLaws.{refusal-never-none}
use Rattle.asks.specs.TableMessagesLaws.{handover-by, handover-refused}
use Rattle.asks.proofs.handing.hand_in.Goals as goal

pub returns-in_err-permitted : goal.returns-in_err-permitted
returns-in_err-permitted c = λ ns ms cs. let p = err_from_is_err_and c.from_residual.result c.from_residual.ensures.1 in rw (p.1, p.2) (handover-refused c.args.head c.args.places.now c.args.area.now c.args.message.now c.args.stream c.args.unordered c.args.ppid (c.in_err-permitted.ensures ns ms cs) (refusal-never-none _))

pub returns : goal.returns
returns c = λ ns ms cs. handover-by c.args.head c.args.places.now c.args.area.now c.args.message.now c.args.stream c.args.unordered c.args.ppid (c.in_ok-permitted.ensures ns ms cs) refl c.hand_in.ensures.value c.hand_in.ensures.t_after c.hand_in.ensures.area_after
