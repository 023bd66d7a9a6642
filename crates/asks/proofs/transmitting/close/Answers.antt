use mathlib.Core.Path.{refl}
use borrow.Author.Tests.{lt-ltb, le-ltb}
use Rattle.calls.specs.Transmit.{bundle_length, bundle_out}
use Rattle.asks.proofs.transmitting.close.Goals as goal

pub returns-then-at-gt12 : goal.returns-then-at-gt12
unfolding bundle_length bundle_out
returns-then-at-gt12 c = rw (lt-ltb _ _ c.if-at-gt12.true) c.seal.ensures

pub returns : goal.returns
unfolding bundle_length bundle_out
returns c = rw (le-ltb _ _ c.if-at-gt12.false) (refl, refl)
