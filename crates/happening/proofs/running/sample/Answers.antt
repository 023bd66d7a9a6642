use Rattle.happening.specs.TableHappeningLaws.{goes-alone}
use Rattle.happening.specs.TableHappening.{lent_table_buffers}
use Rattle.happening.proofs.running.sample.Goals as goal

pub returns : goal.returns
returns c = λ received sent verdicts input cookie out. goes-alone c.args.a (lent_table_buffers received sent verdicts input cookie out) c.ran.ensures (c.rtt-answer.ensures c.args.a.next_in c.args.a.next_out c.args.a.cookie)
