use Rattle.rows.specs.TableRowsLaws.{accepted-told}
use Rattle.flat.specs.Shown.{bare}
use Rattle.association.specs.Fresh.{with_state}
use Rattle.rows.proofs.carrying.acknowledge_shutdown.Goals as goal

pub returns : goal.returns
returns c = accepted-told (with_state (bare c.args.head) c.args.state) c.write_shutdown_ack-n.ensures c.moved.ensures c.accepted.ensures
