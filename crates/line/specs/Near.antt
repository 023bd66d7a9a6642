-- What is held is near enough for the circle to tell it as the line does.
use Prim.Native.Nat.{ℕ}
use Rattle.std.specs.Prelude.{◌≡◌, get_or}
use Rattle.std.proofs.Math.Bool.{true, false}
use mathlib.Core.List.{List}
use Rattle.scans.specs.Each.{All}
use Rattle.numbers.specs.declared.circle.Ssn.{Ssn}
use Rattle.numbers.specs.Circle.{ssn0}
use Rattle.numbers.specs.Numbering.{NearerThan}
use Rattle.holding.specs.declared.held.Held.{Held}
use Rattle.delivery.specs.declared.receiving.Receiving.{Receiving}

-- what is held in this place is near the point and, if ordered, near the next expected of its stream
pub record NearHeld (h k : ℕ) (p : ℕ) (next : List Ssn) (c : Held) : Type 0 where
  pub tsn : c.used ≡ true → NearerThan h p c.tsn.0
  pub ssn : c.used ≡ true → c.unordered ≡ false → NearerThan k (get_or next c.stream.0 ssn0).0 c.ssn.0

-- the hypothesis of every step below
abbrev pub Near : ℕ → ℕ → Receiving → Type 0
Near h k r = All (NearHeld h k r.keeping.point.0 r.next) r.held
