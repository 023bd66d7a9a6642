-- The bounds of a sending record: 01, "Bounds for 1: every limit above; .. flight equal to its sum; sent TSNs successive".
use Rattle.std.specs.Prelude.{◌≡◌, ℕ, ◌+◌, ◌-◌, ◌^◌, ◌<◌, ◌≤◌, Bool, true, false, not, List, replicate, ◌==◌, ◌≢◌, nat_lt, slice_index_or, slice_set}
use Rattle.numbers.specs.declared.circle.Tsn.{Tsn}
use Rattle.numbers.specs.Circle.{steps}
use Rattle.numbers.specs.Profile.{Profile, Fits, is_misfit}
use Rattle.scans.specs.Scan.{pick, any, count, total, fold_from}
use Rattle.scans.specs.Upto.{any_upto}
use Rattle.scans.specs.Each.{All}
use Rattle.path.specs.Sizes.{Sizes}
use Rattle.path.specs.Path.{is_path_within}
use Rattle.path.specs.PathLaws.{PathWithin}
use Rattle.places.specs.declared.place.Place.{Place}
use Rattle.places.specs.Places.{ahead_of, is_place_free, is_waiting, is_sent, place_offset, flight_of, tallied}
use Rattle.sending.specs.declared.sending.Sending.{Sending}
use Rattle.sending.specs.Sending.{sent_above_point}

-- ---- each place

-- a status there is, misses at most 3; a chunk fits
unfoldable pub is_place_odd : Profile → Place → Bool
is_place_odd P p =
    pick (nat_lt 4 p.status) true
    (pick (nat_lt 3 p.misses) true
    (pick (is_place_free p) false
    (is_misfit P p.chunk.len p.chunk.stream.0)))

-- ---- the numbers of those sent, and of those that wait

-- which one a chunk is, counted from 1; 0 if none of them
unfoldable pub key_of : Bool → Tsn → ℕ → Place → ℕ
key_of sent acked oldest p =
    pick sent
    (pick (is_sent p) (place_offset acked p) 0)
    (pick (is_waiting p) (steps (2 ^ 32) oldest p.chunk.order + 1) 0)

-- how many there are
abbrev pub members_of : Bool → List Place → ℕ
members_of sent ps = pick sent (count is_sent ps) (count is_waiting ps)

-- where the number k is noted: nowhere, if there is no such place
unfoldable pub spot_of : Profile → ℕ → ℕ
spot_of P k = pick (nat_lt k 1) P.places (pick (nat_lt P.places k) P.places (k - 1))

-- the number k is noted
unfoldable pub marked_by : Profile → List Bool → ℕ → List Bool
marked_by P seen k = pick (nat_lt (spot_of P k) P.places) (slice_set seen (spot_of P k) true) seen

-- which of the numbers from 1 on are there
unfoldable pub seen_of : Profile → Bool → Tsn → ℕ → List Place → List Bool
seen_of P sent acked oldest ps = fold_from (λ seen i p. marked_by P seen (key_of sent acked oldest p)) (replicate P.places false) 0 ps

-- the number j + 1 is not there
abbrev pub is_gap : List Bool → ℕ → Bool
is_gap seen j = not (slice_index_or seen j false)

-- one of the numbers 1 to n is not there
unfoldable pub has_gap : List Bool → ℕ → Bool
has_gap seen n = any_upto (is_gap seen) 0 n

-- "sent TSNs successive": there are n, and each of the numbers 1 to n is among theirs
unfoldable pub is_successive : Profile → Sending → Bool → ℕ → Bool
is_successive P s sent n =
    pick (members_of sent s.places == n) (not (has_gap (seen_of P sent s.acked s.oldest s.places) n)) false

-- ---- the record

-- the path's limits; "flight equal to its sum"; every place's; the next TSN is ahead of our point, and what is sent has the TSNs between them;
-- what waits has successive orders
unfoldable pub is_bounded : Sizes → Profile → Sending → Bool
is_bounded z P s =
    pick (is_path_within z s.path)
    (pick ((tallied s.acked s.places).flight == s.path.flight)
    (pick (any (is_place_odd P) s.places) false
    (pick (nat_lt (ahead_of s.acked s.next_tsn) 1) false
    (pick (is_successive P s true (sent_above_point s)) (is_successive P s false (count is_waiting s.places)) false)))
    false)
    false

-- and its mode is known; 02, T-12: "1 covers a record whose mode is unknown"
unfoldable pub is_sending_within : Sizes → Profile → Sending → Bool
is_sending_within z P s = pick (nat_lt 1 s.mode) false (is_bounded z P s)

-- ---- the same as a statement

-- a status there is, misses at most 3, and a chunk that fits unless the place is free
pub record PlaceFits (P : Profile) (p : Place) : Type 0 where
  pub status : p.status ≤ 4
  pub misses : p.misses ≤ 3
  pub cut : (p.status ≢ 0) → Fits P p.chunk.len p.chunk.stream.0

-- the chunk is number k of them
abbrev pub has_key : Bool → Tsn → ℕ → ℕ → Place → Bool
has_key sent acked oldest k p = key_of sent acked oldest p == k

-- there are n, and each of the numbers 1 to n is one's
pub record Successive (sent : Bool) (acked : Tsn) (oldest : ℕ) (ps : List Place) (n : ℕ) : Type 0 where
  pub many : members_of sent ps ≡ n
  pub each : (k : ℕ) → 0 < k → k ≤ n → any (has_key sent acked oldest k) ps ≡ true

-- a record within its bounds
pub record SendingSound (z : Sizes) (P : Profile) (s : Sending) : Type 0 where
  pub booked : s.mode ≤ 1
  pub path : PathWithin z s.path
  pub summed : s.path.flight ≡ total flight_of s.places
  pub fit : All (PlaceFits P) s.places
  pub ahead : 0 < ahead_of s.acked s.next_tsn
  pub sent : Successive true s.acked s.oldest s.places (sent_above_point s)
  pub waiting : Successive false s.acked s.oldest s.places (count is_waiting s.places)
