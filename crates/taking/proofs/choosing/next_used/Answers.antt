use native.Mathlib.Omega.{arith}
use Rattle.numbers.specs.Profile.{rail}
use Rattle.tables.specs.HeldWordsLaws.{held-long}
use Rattle.taking.specs.FreeLaws.{pass-end}
use Rattle.taking.proofs.choosing.next_used.Goals as goal

pub returns : goal.returns
returns c = pass-end c.loop-i.invariant (omega (arith, held-long rail c.args.words.now, c.loop-i-test.false))
