use mathlib.Core.Path.{ap}
use Rattle.asks.specs.TableMessages.{Handover}
use Rattle.happening.specs.TableHappening.{lent_table_buffers, hands}
use Rattle.happening.proofs.running.hand_in.Goals as goal

pub returns : goal.returns
returns c = λ received verdicts cookie out. rw c.of_handed.ensures (ap (λ (d : Handover). hands c.args.a d (lent_table_buffers received c.args.sent.now verdicts c.args.input.now cookie out)) (c.hand_in-answer.ensures c.args.a.next_in c.args.a.next_out c.args.a.cookie))
