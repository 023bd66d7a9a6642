use Rattle.happening.specs.TableHappeningLaws.{goes-afresh}
use Rattle.happening.specs.TableHappening.{lent_table_buffers}
use Rattle.happening.proofs.running.associate.Goals as goal

pub returns : goal.returns
returns c = λ received sent verdicts input cookie. goes-afresh c.args.a (lent_table_buffers received sent verdicts input cookie _) c.ran.ensures c.associate-answer.ensures.call_done c.associate-answer.ensures.fact
