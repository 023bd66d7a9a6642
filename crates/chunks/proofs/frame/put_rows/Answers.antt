use Rattle.std.proofs.Common.{refl}
use Rattle.octets.specs.WritingLaws.{listing-one, listing-all}
use Rattle.chunks.proofs.frame.put_rows.Goals as goal

pub loop-i-preserved : goal.loop-i-preserved
loop-i-preserved c = listing-one c.loop-i.invariant c.loop-i-test.true refl c.put32.ensures

pub returns : goal.returns
returns c = listing-all c.loop-i.invariant c.loop-i-test.false
