use Rattle.octets.specs.BytesLaws.{zeros-taken}
use Rattle.octets.proofs.bytes.pad.Goals as goal

pub returns : goal.returns
returns c = rw (← zeros-taken c.args.n) c.put_all.ensures
