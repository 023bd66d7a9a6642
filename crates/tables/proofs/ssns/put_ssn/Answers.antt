use Rattle.numbers.specs.Profile.{rail}
use Rattle.tables.specs.Ssns.{ssn-within, ssn-out}
use Rattle.tables.proofs.ssns.put_ssn.Goals as goal

pub returns-then-i-lt-STREAMS : goal.returns-then-i-lt-STREAMS
returns-then-i-lt-STREAMS c = ssn-within rail _ c.args.i c.args.n c.if-i-lt-STREAMS.true

pub returns-else-i-lt-STREAMS : goal.returns-else-i-lt-STREAMS
returns-else-i-lt-STREAMS c = ssn-out rail _ c.args.i c.args.n c.if-i-lt-STREAMS.false
