use mathlib.Core.Path.{refl}
use Rattle.std.proofs.lemmas.Result.{err_from_is_err_and}
use Rattle.numbers.specs.RefusalLaws.{refusal-never-none}
use Rattle.states.specs.declared.call.Call.TheVariants.{Associate}
use Rattle.association.specs.Bounds.{earlier}
use Rattle.calls.specs.AnswerLaws.{roomy}
use Rattle.flat.specs.Shown.{shown}
use Rattle.asks.specs.TableOpeningLaws.{opening-done, opening-refused}
use Rattle.asks.specs.ReplyLaws.{earlier-first}
use Rattle.asks.proofs.opening.associate.Goals as goal

pub returns-in_err-permitted : goal.returns-in_err-permitted
returns-in_err-permitted c = let p = err_from_is_err_and c.from_residual.result c.from_residual.ensures.1 in let t = opening-refused c.args.head c.args.held.now c.args.next_in.now c.args.places.now c.args.next_out.now c.args.kept.now c.args.tag c.args.tsn c.args.port c.args.streams c.args.out.now (earlier-first _ (c.in_err-permitted.ensures c.args.next_in.now c.args.next_out.now c.args.kept.now) (refusal-never-none _)) (refusal-never-none _) refl in record { call_done = rw (p.1, p.2) t.0; fact = rw (p.1, p.2) t.1 }

pub returns-in_err-check : goal.returns-in_err-check
returns-in_err-check c = let p = err_from_is_err_and c.from_residual-in_err-check.result c.from_residual-in_err-check.ensures.1 in let t = opening-refused c.args.head c.args.held.now c.args.next_in.now c.args.places.now c.args.next_out.now c.args.kept.now c.args.tag c.args.tsn c.args.port c.args.streams c.args.out.now (λ i. earlier (c.in_ok-permitted.ensures c.args.next_in.now c.args.next_out.now c.args.kept.now i) (c.in_err-check.ensures i)) (refusal-never-none _) refl in record { call_done = rw (p.1, p.2) t.0; fact = rw (p.1, p.2) t.1 }

pub send_init-length-requires : goal.send_init-length-requires
send_init-length-requires c = roomy (shown c.args.head c.args.held.now c.args.next_in.now c.args.places.now c.args.next_out.now c.args.kept.now) c.args.out.now Associate (c.in_ok-permitted.ensures c.args.next_in.now c.args.next_out.now c.args.kept.now) refl

pub returns : goal.returns
returns c = let t = opening-done c.args.head c.args.held.now c.args.next_in.now c.args.places.now c.args.next_out.now c.args.kept.now c.args.tag c.args.tsn c.args.port c.args.streams c.args.out.now (λ i. earlier (c.in_ok-permitted.ensures c.args.next_in.now c.args.next_out.now c.args.kept.now i) (c.in_ok-check.ensures i)) refl c.waiting-fresh.ensures c.clear.ensures c.clear-2.ensures c.clear-3.ensures c.clear-4.ensures c.clear_cookie.ensures c.send_init-length.ensures c.told.ensures in record { call_done = t.0; fact = t.1 }
