use mathlib.Core.Path.{refl, ap, ◌∙◌}
use mathlib.Core.Bool.{Bool}
use mathlib.Core.List.{[]}
use Rattle.std.proofs.lemmas.Result.{err_from_is_err_and}
use Rattle.numbers.specs.RefusalLaws.{refusal-never-none}
use Rattle.states.specs.declared.call.Call.TheVariants.{Transmit}
use Rattle.calls.specs.Answer.{barred}
use Rattle.calls.specs.TransmitLaws.{both-roomy}
use Rattle.flat.specs.Shown.{shown}
use Rattle.asks.specs.TableTransmitLaws.{dispatch-by, dispatch-refused}
use Rattle.asks.proofs.transmitting.transmit.Goals as goal

pub returns-in_err-permitted : goal.returns-in_err-permitted
returns-in_err-permitted c = λ ns cs. let p = err_from_is_err_and c.from_residual.result c.from_residual.ensures.1 in rw (p.1, p.2) (dispatch-refused c.args.head c.args.places.now c.args.next_out.now c.args.area.now c.args.out.now (c.in_err-permitted.ensures ns c.args.next_out.now cs ∙ ap (λ (s : Bool). barred (shown c.args.head c.args.held.now ns c.args.places.now c.args.next_out.now cs) s Transmit) c.is_short-short.ensures) (refusal-never-none _))

pub bundle-at-requires : goal.bundle-at-requires
bundle-at-requires c = both-roomy (shown c.args.head c.args.held.now [] c.args.places.now c.args.next_out.now []) c.args.area.now c.args.out.now Transmit (c.in_ok-permitted.ensures [] c.args.next_out.now [] ∙ ap (λ (s : Bool). barred (shown c.args.head c.args.held.now [] c.args.places.now c.args.next_out.now []) s Transmit) c.is_short-short.ensures) refl

pub returns : goal.returns
returns c = λ ns cs. dispatch-by c.args.head c.args.places.now c.args.next_out.now c.args.area.now c.args.out.now (c.in_ok-permitted.ensures ns c.args.next_out.now cs ∙ ap (λ (s : Bool). barred (shown c.args.head c.args.held.now ns c.args.places.now c.args.next_out.now cs) s Transmit) c.is_short-short.ensures) refl c.choose-filled.ensures.head_value.0 c.choose-filled.ensures.head_value.1 c.choose-filled.ensures.t_after.0 c.choose-filled.ensures.t_after.1 c.to_peer-h.ensures (c.bundle-at.ensures c.choose-filled.result.head _) c.close-length.ensures c.with_sender.ensures
