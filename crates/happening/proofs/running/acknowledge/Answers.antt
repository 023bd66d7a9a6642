use mathlib.Core.Path.{refl}
use Rattle.std.specs.Prelude.{Ok, Err}
use Rattle.asks.specs.TableAcknowledging.{sack_reply_of}
use Rattle.happening.specs.TableHappeningLaws.{says}
use Rattle.happening.specs.TableHappening.{lent_table_buffers}
use Rattle.happening.proofs.running.acknowledge.Goals as goal

pub returns-in-Ok : goal.returns-in-Ok
returns-in-Ok c = λ received sent verdicts input cookie. says c.args.a (lent_table_buffers received sent verdicts input cookie c.args.out.now) {r = sack_reply_of c.args.a.head (Ok c.in-Ok.acknowledged)} (c.of_sack.ensures c.args.a.head) c.with_head.ensures (c.in-Ok.ensures c.args.a.next_in c.args.a.next_out c.args.a.cookie)

pub returns-in-Err : goal.returns-in-Err
returns-in-Err c = λ received sent verdicts input cookie. says c.args.a (lent_table_buffers received sent verdicts input cookie c.args.out.now) {r = sack_reply_of c.args.a.head (Err c.in-Err.refusal)} c.refused.ensures refl (c.in-Err.ensures c.args.a.next_in c.args.a.next_out c.args.a.cookie)
