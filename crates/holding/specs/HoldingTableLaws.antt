-- What the rules of messages and of a take say, as equations: for one who reads the places from a table in place of a list. Assumes nothing.
use Rattle.std.specs.Prelude.{ℕ, ◌≡◌, true, false, List, set, get_or, ltb, Option, Some}
use Rattle.std.proofs.Math.Path.{refl}
use Rattle.numbers.specs.declared.circle.Ssn.{Ssn}
use Rattle.numbers.specs.Circle.{ssn0}
use Rattle.numbers.specs.Numbering.{Numbering, Numberings, on, key}
use Rattle.numbers.specs.Profile.{Profile}
use Rattle.scans.specs.Scan.{pick}
use Rattle.holding.specs.declared.held.Held.{Held}
use Rattle.holding.specs.declared.message.Best.{Best}
use Rattle.holding.specs.Held.{holds}
use Rattle.holding.specs.Message.{is_whole, continues, follow, is_left_end, is_due_at, is_expected, opens, chosen}
use Rattle.holding.specs.MessageLaws.{beats_best, is_better, tried_run}
use Rattle.holding.specs.Taking.{advanced, took_by, took}

-- what does not hold the number does not go on with a run at it
pub holds-not-continues : (first : Held) (t : ℕ) (h : Held) → holds t h ≡ false → continues first t h ≡ false
unfolding continues
holds-not-continues first t h e = rw e

module _ (S : Numbering) (P : Profile) (next : List Ssn) (h : Held) where
  pub expected-is : is_expected S P next h ≡ pick h.unordered true (pick (ltb h.stream.0 P.streams) (is_due_at S (get_or next h.stream.0 ssn0).0 h.ssn.0) false)
  unfolding is_expected
  expected-is = refl

  pub opens-is : opens S P next h ≡ pick (is_left_end h) (is_expected S P next h) false
  unfolding opens
  opens-is = refl

module _ (N : Numberings) (P : Profile) (next : List Ssn) (point : ℕ) (best : Option Best) (h : Held) where
  pub better-message-is : is_better N P next point best h ≡ pick (opens N.ssn P next h) (beats_best (key N.tsn point h.tsn.0) best) false
  unfolding is_better
  better-message-is = refl

  -- no message begins at a free place
  pub free-not-better : h.used ≡ false → is_better N P next point best h ≡ false
  unfolding is_better opens is_left_end
  free-not-better u = rw u

pub tried-is : (T : Numbering) (P : Profile) (hs : List Held) (point : ℕ) (best : Option Best) (i : ℕ) (h : Held)
    → tried_run T P hs point best i h ≡ pick (is_whole (follow T hs h P.places i h)) (Some (record { place = i; key = key T point h.tsn.0 })) best
unfolding tried_run
tried-is T P hs point best i h = refl

pub advanced-is : (S : Numbering) (next : List Ssn) (h : Held)
    → advanced S next h ≡ pick h.unordered next (set next h.stream.0 (record { 0 = on S (get_or next h.stream.0 ssn0).0 1 }))
unfolding advanced
advanced-is S next h = refl

pub took-is : (N : Numberings) (P : Profile) (hs : List Held) (next : List Ssn) (point room : ℕ)
    → took N P hs next point room ≡ took_by N.ssn hs next room (chosen N P hs next point)
unfolding took
took-is N P hs next point room = refl
