use mathlib.Core.Path.{refl, ap}
use mathlib.Core.List.{[]}
use borrow.Author.Tests.{ne_eqb}
use Rattle.std.proofs.lemmas.Result.{err_from_is_err_and}
use Rattle.numbers.specs.RefusalLaws.{refusal-never-none}
use Rattle.states.specs.declared.call.Call.TheVariants.{Acknowledge}
use Rattle.calls.specs.AnswerLaws.{roomy}
use Rattle.calls.specs.Acknowledging.{acknowledged_call, acknowledged_out}
use Rattle.calls.specs.AcknowledgingLaws.{sack-done}
use Rattle.flat.specs.declared.head.Head.{Head}
use Rattle.flat.specs.Shown.{shown}
use Rattle.asks.specs.TableAcknowledgingLaws.{sacked-in}
use Rattle.asks.proofs.acknowledging.sack.Goals as goal

pub returns-in_err-permitted : goal.returns-in_err-permitted
unfolding acknowledged_call acknowledged_out
returns-in_err-permitted c = λ ns ms cs. let p = err_from_is_err_and c.from_residual.result c.from_residual.ensures.1 in rw (p.1, p.2) (rw (← c.in_err-permitted.ensures ns ms cs, ne_eqb _ _ (refusal-never-none c.in_err-permitted.field-0.0)) (refl, refl))

pub send_sack-length-requires : goal.send_sack-length-requires
send_sack-length-requires c = roomy (shown c.args.head c.args.held.now [] c.args.places.now [] []) c.args.out.now Acknowledge (c.in_ok-permitted.ensures [] [] []) refl

pub returns : goal.returns
returns c = λ ns ms cs. sack-done (shown c.args.head c.args.held.now ns c.args.places.now ms cs) (c.in_ok-permitted.ensures ns ms cs) refl (sacked-in c.args.head c.args.held.now ns c.sack-said.ensures) c.chunk_of-sack.ensures c.send_sack-length.ensures (ap (λ (x : Head). shown x c.args.held.now ns c.args.places.now ms cs) c.with_keeping.ensures)
