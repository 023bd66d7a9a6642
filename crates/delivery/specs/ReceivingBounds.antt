-- "Bounds for 1: every limit above; offset 1 not come; highest offset come plus low at most 128; held TSNs distinct": those of the receiving side,
-- as a statement, and as the test that is computed.
use Rattle.std.specs.Prelude.{ℕ, ◌+◌, ◌≤◌, ◌≡◌, Bool, true, false, not, List, length, take, get_or, ltb}
use Rattle.numbers.specs.Numbering.{Numbering}
use Rattle.numbers.specs.Profile.{Profile, Fits, is_misfit}
use Rattle.numbers.specs.Keeping.{Bounded, highest_of, keeping_sound}
use Rattle.numbers.specs.KeepingRoomLaws.{numbers_of, Distinct}
use Rattle.scans.specs.Scan.{pick, any}
use Rattle.scans.specs.Each.{All}
use Rattle.scans.specs.Upto.{any_upto}
use Rattle.holding.specs.declared.held.Held.{Held}
use Rattle.holding.specs.Held.{no_held, holds}
use Rattle.delivery.specs.declared.receiving.Receiving.{Receiving}
use Rattle.delivery.specs.Receiving.{low_of}

-- a place is used; the TSN that is held there
abbrev pub is_used : Held → Bool
is_used h = h.used

abbrev pub number_in : Held → ℕ
number_in h = h.tsn.0

-- the TSNs that are held
abbrev pub held_numbers : List Held → List ℕ
held_numbers hs = numbers_of is_used number_in hs

-- a held chunk has a payload and a stream that fit
abbrev pub HeldFits : Profile → Held → Type 0
HeldFits P h = Fits P h.len h.stream.0

-- the bounds of the receiving side; those of number-keeping are that offset 1 has not come and that the duplicates listed have room
pub record ReceivingSound (T : Numbering) (P : Profile) (r : Receiving) : Type 0 where
  pub numbers : Bounded P r.keeping
  pub fit : All (λ (h : Held). h.used ≡ true → HeldFits P h) r.held
  pub room : highest_of r.keeping + low_of T r ≤ P.places
  pub apart : Distinct (held_numbers r.held)

-- ---- the test

-- a held chunk that is not `HeldFits`
unfoldable pub is_unfit : Profile → Held → Bool
is_unfit P h = pick h.used (is_misfit P h.len h.stream.0) false

-- the number at place i is held at an earlier place
abbrev pub is_second : List Held → ℕ → Bool
is_second hs i = pick (get_or hs i no_held).used (any (holds (get_or hs i no_held).tsn.0) (take i hs)) false

-- a TSN is held twice
unfoldable pub is_twice : List Held → Bool
is_twice hs = any_upto (is_second hs) 0 (length hs)

-- the bounds, one after the other
unfoldable pub is_receiving_sound : Numbering → Profile → Receiving → Bool
is_receiving_sound T P r =
    pick (not (keeping_sound P r.keeping)) false
    (pick (any (is_unfit P) r.held) false
    (pick (ltb P.places (highest_of r.keeping + low_of T r)) false (not (is_twice r.held))))
