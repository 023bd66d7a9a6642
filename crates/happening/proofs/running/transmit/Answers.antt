use mathlib.Core.Path.{ap}
use Rattle.asks.specs.TableTransmit.{Dispatch}
use Rattle.happening.specs.TableHappening.{lent_table_buffers, dispatches}
use Rattle.happening.proofs.running.transmit.Goals as goal

pub returns-in-Ok : goal.returns-in-Ok
returns-in-Ok c = λ received verdicts input cookie. rw (c.of_transmitted.ensures c.args.a.head) (ap (λ (d : Dispatch). dispatches c.args.a d (lent_table_buffers received c.args.sent.now verdicts input cookie c.args.out.now)) (c.in-Ok.ensures c.args.a.next_in c.args.a.cookie))

pub returns-in-Err : goal.returns-in-Err
returns-in-Err c = λ received verdicts input cookie. rw c.refused.ensures (ap (λ (d : Dispatch). dispatches c.args.a d (lent_table_buffers received c.args.sent.now verdicts input cookie c.args.out.now)) (c.in-Err.ensures c.args.a.next_in c.args.a.cookie))
