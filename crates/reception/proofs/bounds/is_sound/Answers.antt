use Prim.Native.Nat.{◌+◌, ◌^◌}
use mathlib.Core.List.{[]}
use native.Mathlib.Omega.{arith}
use borrow.Author.Rules.{rules}
use borrow.Author.Tests.{lt-ltb, le-ltb}
use Rattle.numbers.specs.Keeping.{highest_of}
use Rattle.numbers.specs.KeepingLaws.{highest-is, highest-places}
use Rattle.numbers.specs.Numbering.{ring}
use Rattle.numbers.specs.Profile.{rail}
use Rattle.delivery.specs.ReceivingBoundsLaws.{sound-weighed}
use Rattle.reception.specs.Reception.{receiving_shown}
use Rattle.reception.specs.ReadLaws.{not-pick}
use Rattle.reception.proofs.bounds.is_sound.Goals as goal

pub returns-then-not-within_bounds : goal.returns-then-not-within_bounds
returns-then-not-within_bounds c = rw (sound-weighed (ring (2 ^ 32)) rail (receiving_shown rail c.args.keeping c.args.words.now []), ← c.within_bounds.ensures, c.if-not-within_bounds.true)

pub returns-in_default : goal.returns-in_default
returns-in_default c = rw (sound-weighed (ring (2 ^ 32)) rail (receiving_shown rail c.args.keeping c.args.words.now []), ← c.within_bounds.ensures, c.if-not-within_bounds.false, ← c.in_default.ensures.0)

pub returns-then-low-lt1 : goal.returns-then-low-lt1
returns-then-low-lt1 c = rw (sound-weighed (ring (2 ^ 32)) rail (receiving_shown rail c.args.keeping c.args.words.now []), ← c.within_bounds.ensures, c.if-not-within_bounds.false, ← c.in-Some.ensures.0, lt-ltb c.in-Some.low 1 c.if-low-lt1.true, le-ltb 128 (highest_of c.args.keeping + c.in-Some.low) (omega (arith, highest-places rail c.args.keeping (search (rules, c.well_formed)), c.if-low-lt1.true)))

pub is_over-requires : goal.is_over-requires
is_over-requires c = c.in-Some.ensures.1

pub returns-else-low-lt1 : goal.returns-else-low-lt1
returns-else-low-lt1 c = rw (sound-weighed (ring (2 ^ 32)) rail (receiving_shown rail c.args.keeping c.args.words.now []), ← c.within_bounds.ensures, c.if-not-within_bounds.false, ← c.in-Some.ensures.0, highest-is c.args.keeping, ← c.is_over.ensures) (not-pick c.is_over.result)
