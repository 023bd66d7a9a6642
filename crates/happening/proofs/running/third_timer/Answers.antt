use mathlib.Core.Path.{ap}
use Rattle.asks.specs.TableTimers.{Lapse}
use Rattle.happening.specs.TableHappening.{lent_table_buffers, lapses}
use Rattle.happening.proofs.running.third_timer.Goals as goal

pub returns : goal.returns
returns c = λ received sent verdicts input cookie out. rw c.ran.ensures (ap (λ (l : Lapse). lapses c.args.a l (lent_table_buffers received sent verdicts input cookie out)) (c.t3-answer.ensures c.args.a.next_in c.args.a.next_out c.args.a.cookie))
