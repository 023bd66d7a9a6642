use Prim.Native.Nat.{◌+◌, ◌*◌, ◌≤◌}
use mathlib.Core.Path.{◌≡◌}
use lib.ListN.{length}
use Rattle.scans.specs.Scan.{Folding}
use Rattle.numbers.specs.Profile.{rail}
use Rattle.tables.specs.PlaceWords.{places_of}
use Rattle.calls.specs.Transmit.{added_chosen}
use Rattle.asks.proofs.transmitting.bundle.Given as goal

abbrev pub invariant-loop-k : goal.invariant-loop-k
invariant-loop-k l = Folding (added_chosen l.area l.fn.load.count (places_of rail l.places)) (record { at = 12; out = l.initial.out }) l.fn.load.places 26 l.k (record { at = l.at; out = l.out }) × (l.at ≤ length l.out) × (length l.out ≡ length l.initial.out) × (l.at ≤ 12 + 65532 * l.k)
