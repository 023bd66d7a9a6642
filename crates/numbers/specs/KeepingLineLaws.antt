-- The circle keeps numbers as the line does: of a record of the line, taken modulo the circle, each operation gives the line's result so taken,
-- for a number less than half a circle from the point. Once for every (even) size of circle and every profile.
-- Assumes nothing.
use Rattle.std.specs.Prelude.{◌≡◌, ℕ, ◌+◌, ◌-◌, ◌%◌, ◌<◌, Bool, true, false, List, map, replicate, nat_lt, slice_set}
use Rattle.std.proofs.Math.Path.{refl, ap}
use Rattle.std.proofs.Math.Nat.{zero-mod}
use Rattle.scans.specs.Scan.{pick}
use Rattle.scans.specs.Each.{set-map, replicate-kept}
use Rattle.numbers.specs.declared.circle.Tsn.{Tsn}
use Rattle.numbers.specs.declared.keeping.Keeping.{Keeping}
use Rattle.numbers.specs.Circle.{tsn0, forward}
use Rattle.numbers.specs.Numbering.{ring, line, NearerThan, on-law, before-law, far-law}
use Rattle.numbers.specs.Profile.{Profile}
use Rattle.numbers.specs.Come.{run}
use Rattle.numbers.specs.Keeping.{fresh_keeping, offset_of, is_come, with_come, moved_on, keeping_settled, marked_come, listed, keeping_told, highest_of, keeping_sound}
use Rattle.numbers.specs.Blocks.{blocks_of}

-- a number of the line, as the circle of n points has it
abbrev pub reduce_tsn : ℕ → Tsn → Tsn
reduce_tsn n t = record { 0 = t.0 % n }

-- every number modulo n, and nothing else changed
abbrev pub reduce_keeping : ℕ → Keeping → Keeping
reduce_keeping n k = record { point = reduce_tsn n k.point; come = k.come; dups = map (reduce_tsn n) k.dups; listed = k.listed }

pick-map : {A B : Type 0} (f : A → B) (b : Bool) (x y : A) → pick b (f x) (f y) ≡ f (pick b x y)
pick-map f true x y = refl
pick-map f false x y = refl

module _ (n : ℕ) where
  none-law : (m : ℕ) → map (reduce_tsn n) (replicate m tsn0) ≡ replicate m tsn0
  none-law m = replicate-kept (reduce_tsn n) tsn0 (rw (zero-mod n)) m

  pub fresh-keeping-law : (P : Profile) (t : Tsn) → 0 < n → 0 < t.0 → fresh_keeping (ring n) P (reduce_tsn n t) ≡ reduce_keeping n (fresh_keeping line P t)
  unfolding fresh_keeping
  fresh-keeping-law P t z h = rw (before-law n t.0 z h, none-law P.listed)

  pub moved-law : (k : Keeping) (d : ℕ) → moved_on (ring n) (reduce_keeping n k) d ≡ reduce_keeping n (moved_on line k d)
  moved-law k d = rw (on-law n k.point.0 d)

  pub settled-law : (k : Keeping) → keeping_settled (ring n) (reduce_keeping n k) ≡ reduce_keeping n (keeping_settled line k)
  unfolding keeping_settled
  settled-law k = moved-law k (run k.come)

  pub listed-law : (P : Profile) (k : Keeping) (t : Tsn) → listed P (reduce_keeping n k) (reduce_tsn n t) ≡ reduce_keeping n (listed P k t)
  unfolding listed
  listed-law P k t =
      let more : Keeping = record { point = k.point; come = k.come; dups = slice_set k.dups k.listed t; listed = k.listed + 1 } in
      rw (set-map (reduce_tsn n) k.dups k.listed t) (pick-map (reduce_keeping n) (nat_lt k.listed P.listed) more k)

  pub told-law : (P : Profile) (k : Keeping) → keeping_told P (reduce_keeping n k) ≡ reduce_keeping n (keeping_told P k)
  unfolding keeping_told
  told-law P k = rw (none-law P.listed)

  pub blocks-law : (P : Profile) (k : Keeping) → blocks_of P (reduce_keeping n k) ≡ blocks_of P k
  unfolding blocks_of
  blocks-law P k = refl

  pub highest-law : (k : Keeping) → highest_of (reduce_keeping n k) ≡ highest_of k
  unfolding highest_of
  highest-law k = refl

  pub sound-law : (P : Profile) (k : Keeping) → keeping_sound P (reduce_keeping n k) ≡ keeping_sound P k
  unfolding keeping_sound
  sound-law P k = refl

module _ (h : ℕ) (k : Keeping) (t : ℕ) (w : NearerThan h k.point.0 t) where
  pub offset-law : offset_of (ring (h + h)) (reduce_keeping (h + h) k) (t % (h + h)) ≡ offset_of line k t
  unfolding offset_of
  offset-law = ap forward (far-law h k.point.0 t w)

  pub come-law : is_come (ring (h + h)) (reduce_keeping (h + h) k) (t % (h + h)) ≡ is_come line k t
  unfolding is_come
  come-law = rw offset-law

  pub marked-law : (P : Profile) → marked_come (ring (h + h)) P (reduce_keeping (h + h) k) (t % (h + h)) ≡ reduce_keeping (h + h) (marked_come line P k t)
  unfolding marked_come
  marked-law P =
      let d : ℕ = offset_of line k t in
      let now : Keeping = with_come k (slice_set k.come (d - 1) true) in
      let next : Keeping = keeping_settled line now in
      rw (offset-law, settled-law (h + h) now, pick-map (reduce_keeping (h + h)) (nat_lt P.places d) k next)
      (pick-map (reduce_keeping (h + h)) (nat_lt d 1) k (pick (nat_lt P.places d) k next))
