-- What a message is, which can be taken, and which a take gives, over the numberings N: T of chunks, S of the ordered messages of a stream. With no
-- word of how it is looked for.
use Rattle.std.specs.Prelude.{ℕ, suc, ◌<◌, ◌≤◌, ◌≡◌, true, false, List, ◌⊎◌, length, get_or, eqb}
use Rattle.numbers.specs.declared.circle.Ssn.{Ssn}
use Rattle.numbers.specs.Circle.{ssn0}
use Rattle.numbers.specs.Numbering.{Numbering, Numberings, on, key}
use Rattle.numbers.specs.Profile.{Profile}
use Rattle.numbers.specs.KeepingRoomLaws.{numbers_of, Distinct}
use Rattle.numbers.specs.ReachLaws.{On}
use Rattle.scans.specs.Each.{All}
use Rattle.holding.specs.declared.held.Held.{Held}
use Rattle.holding.specs.Held.{no_held}
use Rattle.holding.specs.Message.{is_due_at}

-- chunk k of those at the places is, from 0 on
abbrev pub fragment_at : List Held → List ℕ → ℕ → Held
fragment_at hs is k = get_or hs (get_or is k 0) no_held

-- "A message is a run of held chunks with successive TSNs, B on the first only, E on the last only, one stream, one U bit, and, if ordered, one SSN":
-- the chunks at the places is, in this order, are one
pub record IsMessage (T : Numbering) (hs : List Held) (is : List ℕ) : Type 0 where
  pub some : 0 < length is
  pub held : (k : ℕ) → k < length is → (fragment_at hs is k).used ≡ true
  pub successive : (k : ℕ) → suc k < length is → (fragment_at hs is (suc k)).tsn.0 ≡ on T (fragment_at hs is k).tsn.0 1
  pub begins : (k : ℕ) → k < length is → (fragment_at hs is k).begin ≡ eqb k 0
  pub ends : (k : ℕ) → k < length is → (fragment_at hs is k).end ≡ eqb (suc k) (length is)
  pub one-stream : (k : ℕ) → k < length is → (fragment_at hs is k).stream.0 ≡ (fragment_at hs is 0).stream.0
  pub one-kind : (k : ℕ) → k < length is → (fragment_at hs is k).unordered ≡ (fragment_at hs is 0).unordered
  pub one-ssn : (fragment_at hs is 0).unordered ≡ false → (k : ℕ) → k < length is → (fragment_at hs is k).ssn.0 ≡ (fragment_at hs is 0).ssn.0

-- "its SSN is the next expected" of its stream, which is one of the profile's (`due-same`: they are equal)
abbrev pub IsNext : Numbering → Profile → List Ssn → Held → Type 0
IsNext S P next h = (h.stream.0 < P.streams) × (is_due_at S (get_or next h.stream.0 ssn0).0 h.ssn.0 ≡ true)

-- "It can be taken if unordered, or if its SSN is the next expected"
pub record CanBeTaken (N : Numberings) (P : Profile) (hs : List Held) (next : List Ssn) (is : List ℕ) : Type 0 where
  pub message : IsMessage N.tsn hs is
  pub due : ((fragment_at hs is 0).unordered ≡ true) ⊎ IsNext N.ssn P next (fragment_at hs is 0)

-- what is compared of two messages: "first TSN, minus the point plus 2,147,483,648, modulo 2^32"
abbrev pub order_of : Numbering → List Held → ℕ → List ℕ → ℕ
order_of T hs point is = key T point (fragment_at hs is 0).tsn.0

-- "A take gives the one whose first TSN, minus the point plus 2,147,483,648, modulo 2^32, is smallest": is comes first of those that can be taken
pub record IsFirst (N : Numberings) (P : Profile) (hs : List Held) (next : List Ssn) (point : ℕ) (is : List ℕ) : Type 0 where
  pub ready : CanBeTaken N P hs next is
  pub least : (js : List ℕ) → CanBeTaken N P hs next js → order_of N.tsn hs point is ≤ order_of N.tsn hs point js

-- ---- what the laws need of the places

-- "128 held chunks", "held TSNs distinct"
pub record Stored (P : Profile) (hs : List Held) : Type 0 where
  pub places : length hs ≤ P.places
  pub apart : Distinct (numbers_of (λ (h : Held). h.used) (λ (h : Held). h.tsn.0) hs)

-- each held number is one of the circle's, as every TSN of 32 bits is
abbrev pub HeldOn : Numbering → List Held → Type 0
HeldOn T hs = All (λ (h : Held). h.used ≡ true → On T h.tsn.0) hs
