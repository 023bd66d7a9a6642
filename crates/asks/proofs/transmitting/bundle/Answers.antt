use borrow.Author.Rules.{rules}
use Prim.Native.Nat.{◌-◌}
use mathlib.Core.Path.{refl}
use native.Mathlib.Omega.{arith}
use borrow.Author.Tests.{le-ltb}
use Rattle.scans.specs.Scan.{fold_more, fold_end}
use Rattle.calls.specs.Transmit.{bundled}
use Rattle.asks.specs.TableTransmitLaws.{turned-at}
use Rattle.asks.proofs.transmitting.bundle.Goals as goal
use Rattle.asks.proofs.transmitting.bundle.Goals.{then-k-load, else-k-load}

pub loop-k-init : goal.loop-k-init
loop-k-init c = (record { long = search rules; rest = refl }, omega arith, refl, omega arith)

pub add-at-requires : goal.add-at-requires
add-at-requires c = (c.loop-k.invariant.1, omega (arith, c.loop-k.invariant.3, c.loop-k-test.true))

pub loop-k-preserved : goal.loop-k-preserved
loop-k-preserved c =
    let w = c.loop-k.invariant in
    let h = c.loop-k-test.true in
    elim c.if-k-load.branch [
      | then-k-load v ↦ let place = rw v.from.ensures at v.place_at-p.ensures in rw (v.out-is, v.at-is) (fold_more w.0 0 _ h (turned-at _ _ c.args.places.now _ _ _ v.if-k-load.true place v.add-at.ensures.is), omega (arith, v.add-at.ensures.within, w.2), omega (arith, w.2), omega (arith, v.add-at.ensures.near, w.3))
      | else-k-load v ↦ rw (v.out-is, v.at-is) (fold_more w.0 0 _ h (rw (le-ltb _ _ v.if-k-load.false)), w.1, w.2, omega (arith, w.3))
    ]

pub shape_of-out : goal.shape_of-out
shape_of-out c = omega (arith, c.loop-k.invariant.2)

pub returns : goal.returns
unfolding bundled
returns c = λ s ms. fold_end c.loop-k.invariant.0 c.loop-k-test.false
