-- A receiver that starts from a fresh record has nothing to give, whatever stood there before. Assumes nothing.
use Prim.Native.Nat.{ℕ, zero, suc, ◌+◌}
use Rattle.std.specs.Prelude.{◌≡◌, List, replicate}
use Rattle.std.proofs.Math.Path.{refl, ap}
use Rattle.scans.specs.Scan.{fold_from}
use Rattle.numbers.specs.declared.circle.Tsn.{Tsn}
use Rattle.numbers.specs.declared.circle.Ssn.{Ssn}
use Rattle.numbers.specs.Numbering.{Numberings}
use Rattle.numbers.specs.Profile.{Profile}
use Rattle.holding.specs.declared.held.Held.{Held}
use Rattle.holding.specs.declared.taking.Answer.TheVariants.{Nothing}
use Rattle.holding.specs.Held.{no_held}
use Rattle.holding.specs.Message.{Choice, none, is_left_end, opens, better_message, chosen}
use Rattle.holding.specs.Taking.{took_by, took}
use Rattle.delivery.specs.Receiving.{fresh_receiving, taken_into}

-- a take answers 17
module _ (N : Numberings) (P : Profile) (t : Tsn) where
  free-none : (hs : List Held) (next : List Ssn) (point n i : ℕ) (c : Choice) → fold_from (better_message N P hs next point) c i (replicate n no_held) ≡ c
  unfolding better_message opens is_left_end
  free-none hs next point zero i c = refl
  free-none hs next point (suc n) i c = free-none hs next point n (i + 1) c

  pub fresh-nothing : (room : ℕ) → (taken_into N P (fresh_receiving N.tsn P t) room).answer ≡ Nothing
  unfolding taken_into took fresh_receiving chosen
  fresh-nothing room =
      ap (λ (c : Choice). (took_by N.ssn (fresh_receiving N.tsn P t).held (fresh_receiving N.tsn P t).next room c).answer)
      (free-none (fresh_receiving N.tsn P t).held (fresh_receiving N.tsn P t).next (fresh_receiving N.tsn P t).keeping.point.0 P.places 0 none)
