use Rattle.happening.specs.TableHappeningLaws.{goes-as-planned}
use Rattle.happening.specs.TableHappening.{lent_table_buffers}
use Rattle.happening.proofs.running.abort.Goals as goal

pub returns : goal.returns
returns c = λ received sent verdicts input cookie. (goes-as-planned c.args.a (lent_table_buffers received sent verdicts input cookie _) c.ran.ensures (c.abort-answer.ensures c.args.a.next_in c.args.a.next_out c.args.a.cookie))
