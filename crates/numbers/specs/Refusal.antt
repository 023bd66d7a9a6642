-- The numbers answered: each refusal has its own, and 0 is no refusal's.
-- Assumes nothing.
use Rattle.std.specs.Prelude.{ℕ, Result, Ok, Err}
use Rattle.numbers.specs.declared.refusal.Refusal.{Refusal}
use Rattle.numbers.specs.declared.refusal.Refusal.TheVariants as refusal

abbrev pub refusal_number : Refusal → ℕ
refusal_number refusal.Record = 1
refusal_number refusal.Size = 2
refusal_number refusal.Checksum = 3
refusal_number refusal.Head = 4
refusal_number refusal.Length = 5
refusal_number refusal.Bundled = 6
refusal_number refusal.State = 7
refusal_number refusal.Opening = 8
refusal_number refusal.Empty = 9
refusal_number refusal.Long = 10
refusal_number refusal.Duplicate = 11
refusal_number refusal.Wedged = 12
refusal_number refusal.Far = 13
refusal_number refusal.Stray = 14
refusal_number refusal.Stale = 15
refusal_number refusal.False = 16
refusal_number refusal.Nothing = 17
refusal_number refusal.Short = 18
refusal_number refusal.Message = 19
refusal_number refusal.Full = 20
refusal_number refusal.Clashing = 21
refusal_number refusal.Opposite = 24
refusal_number refusal.Cookie = 27

-- the number of a refusal, and 0 where nothing is refused
abbrev pub answered_number : {A : Type 0} → Result A Refusal → ℕ
answered_number (Ok _) = 0
answered_number (Err r) = refusal_number r
