use Rattle.steps.specs.VerdictLaws.{part_bytes}
use Rattle.steps.specs.Carrying.{echo_heartbeat}
use Rattle.rows.proofs.carrying.echo_heartbeat.Goals as goal

pub returns : goal.returns
unfolding echo_heartbeat
returns c = (rw (← c.info-p.ensures.0, ← part_bytes c.info-p.result c.args.s.now, ← c.write_heartbeat_ack-n.ensures.count) c.accepted.ensures, rw (← c.info-p.ensures.0, ← part_bytes c.info-p.result c.args.s.now) c.write_heartbeat_ack-n.ensures.bytes)
