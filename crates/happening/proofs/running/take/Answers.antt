use mathlib.Core.Path.{ap}
use Rattle.asks.specs.TableMessages.{Delivery}
use Rattle.happening.specs.TableHappening.{lent_table_buffers, delivers}
use Rattle.happening.proofs.running.take.Goals as goal

pub returns : goal.returns
returns c = λ sent verdicts input cookie. rw c.of_delivered.ensures (ap (λ (d : Delivery). delivers c.args.a d (lent_table_buffers c.args.received.now sent verdicts input cookie c.args.out.now)) (c.take-answer.ensures c.args.a.next_out c.args.a.cookie))
