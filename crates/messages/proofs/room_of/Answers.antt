use Rattle.std.proofs.Common.{ℕ, ◌+◌, ◌-◌, eqb, sym, subst, arith, Fits-le, Fits-lit}
use mir.Val.{bool_byte}
use Rattle.numbers.specs.Profile.{rail}
use Rattle.scans.specs.Scan.{Counting, count-bit, bit-within, count-end}
use Rattle.places.specs.Places.{has_status}
use Rattle.tables.specs.PlaceWords.{places_of, vacant}
use Rattle.tables.specs.PlaceWordsLaws.{places-long}
use Rattle.messages.proofs.room_of.Goals as goal

pub loop-i-init : goal.loop-i-init
loop-i-init c = (record { long = places-long rail _; within = omega arith; below = omega arith; rest = omega arith }, record { long = places-long rail _; within = omega arith; below = omega arith; rest = omega arith })

pub overflow_add-free : goal.overflow_add-free
overflow_add-free c = rw c.from-free.ensures (Fits-le (bit-within c.loop-i.invariant.0 (eqb c.status_at-status.result 0) c.loop-i-test.true) (Fits-lit tt))

pub overflow_add-waiting : goal.overflow_add-waiting
overflow_add-waiting c = rw c.from-waiting.ensures (Fits-le (bit-within c.loop-i.invariant.1 (eqb c.status_at-status.result 1) c.loop-i-test.true) (Fits-lit tt))

pub loop-i-preserved : goal.loop-i-preserved
loop-i-preserved c = let w = c.loop-i.invariant in let h = c.loop-i-test.true in rw (c.from-free.ensures, c.from-waiting.ensures, c.status_at-status.ensures) (count-bit w.0 vacant h, count-bit w.1 vacant h)

pub returns : goal.returns
returns c = let w = c.loop-i.invariant in (count-end w.0 c.loop-i-test.false, count-end w.1 c.loop-i-test.false, omega (arith, w.0.below, w.0.within), omega (arith, w.1.below, w.1.within))
