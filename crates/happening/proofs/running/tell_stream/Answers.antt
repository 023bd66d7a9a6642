use mathlib.Core.Path.{refl}
use borrow.Author.Tests.{lt-ltb, le-ltb}
use Rattle.std.proofs.lemmas.Result.{err_from_is_err_and}
use Rattle.numbers.specs.declared.refusal.Refusal.TheVariants.{Message}
use Rattle.numbers.specs.RefusalLaws.{refusal-never-none}
use Rattle.association.specs.Bounds.{earlier}
use Rattle.flat.specs.Shown.{shows}
use Rattle.asks.specs.ReplyLaws.{earlier-first}
use Rattle.events.specs.Happening.{telling_any, stray_number}
use Rattle.events.specs.HappeningLaws.{refused-done}
use Rattle.happening.proofs.running.tell_stream.Goals as goal

pub returns-then-stream-lt65536 : goal.returns-then-stream-lt65536
unfolding telling_any stray_number
returns-then-stream-lt65536 c = rw (lt-ltb _ _ c.if-stream-lt65536.true) (c.error_stream.ensures c.args.a.next_in c.args.a.next_out c.args.a.cookie)

pub returns-in_err-permitted : goal.returns-in_err-permitted
unfolding telling_any stray_number
returns-in_err-permitted c = let p = err_from_is_err_and c.from_residual.result c.from_residual.ensures.1 in rw (p.1, p.2, le-ltb _ _ c.if-stream-lt65536.false) (refused-done (shows c.args.a) (earlier-first _ (c.in_err-permitted.ensures c.args.a.next_in c.args.a.next_out c.args.a.cookie) (refusal-never-none _)) (refusal-never-none _) (record { is = refl }))

pub returns : goal.returns
unfolding telling_any stray_number
returns c = rw (le-ltb _ _ c.if-stream-lt65536.false) (refused-done (shows c.args.a) (λ i. earlier (c.in_ok-permitted.ensures c.args.a.next_in c.args.a.next_out c.args.a.cookie i) 19) (refusal-never-none Message) (record { is = refl }))
