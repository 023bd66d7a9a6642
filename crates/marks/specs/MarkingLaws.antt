-- What a SACK, misses and T3 find in a table, and that the words they leave show the places that the definitions have. Assumes nothing.
use Rattle.std.specs.Prelude.{ℕ, ◌*◌, ◌≤◌, ◌≡◌, refl, Bool, false, List, map, length}
use Rattle.std.proofs.Common.{sym, ◌∙◌, eqb-true}
use Rattle.numbers.specs.declared.circle.Tsn.{Tsn}
use Rattle.numbers.specs.Profile.{Profile}
use Rattle.scans.specs.Scan.{any, total}
use Rattle.scans.specs.Upto.{largest}
use Rattle.scans.specs.Each.{clash}
use Rattle.places.specs.declared.place.Place.{Place}
use Rattle.places.specs.declared.sack.Sack.{Sack}
use Rattle.places.specs.Places.{has_status, is_outstanding, flight_of, outstanding_offset, tallied, marked_for_resend, reaches_three, missed, missed_all}
use Rattle.places.specs.Sack.{place_settled, sack_taken_in}
use Rattle.places.specs.PlacesLaws.{taken_places, missed-places}
use Rattle.places.specs.PassLaws.{missed-struck, tallied-is, total-over, any-over, largest-over, settled-restated, missed-restated, marked-restated, free-settled, free-missed}
use Rattle.tables.specs.PlaceWords.{places_of}
use Rattle.tables.specs.PlaceStates.{Marks, states_by, states-show}
use Rattle.marks.specs.declared.Missing.{Missing}

-- T3 passes over no place
abbrev pub never : Place → Bool
never p = false

-- whether a chunk came to three, and the sums over the places with their misses
unfoldable pub missing : Tsn → ℕ → List Place → Missing
missing from limit ps = record {
  struck = (missed_all from limit ps).struck;
  flight = (tallied from (missed_all from limit ps).places).flight;
  left = (tallied from (missed_all from limit ps).places).left;
  last = (tallied from (missed_all from limit ps).places).last;
}

pub missing-is : (from : Tsn) (limit : ℕ) (ps : List Place) → missing from limit ps ≡ record {
  struck = (missed_all from limit ps).struck;
  flight = (tallied from (missed_all from limit ps).places).flight;
  left = (tallied from (missed_all from limit ps).places).left;
  last = (tallied from (missed_all from limit ps).places).last;
}
unfolding missing
missing-is from limit ps = refl

-- found in one pass
pub missing-by : (from : Tsn) (limit : ℕ) (ps : List Place) {struck : Bool} {flight : ℕ} {left : Bool} {last : ℕ}
    → struck ≡ any (reaches_three from limit) ps
    → flight ≡ total (λ p. flight_of (missed from limit p)) ps
    → left ≡ any (λ p. is_outstanding (missed from limit p)) ps
    → last ≡ largest (λ p. outstanding_offset from (missed from limit p)) ps
    → ◌≡◌ {A = Missing} (record { struck = struck; flight = flight; left = left; last = last }) (missing from limit ps)
unfolding missing
missing-by from limit ps a b c d =
    rw (missed-places from limit ps, missed-struck from limit ps, tallied-is from (map (missed from limit) ps), ← total-over (missed from limit) flight_of ps, ← any-over (missed from limit) is_outstanding ps, ← largest-over (missed from limit) (outstanding_offset from) ps, a, b, c, d)

-- ---- what the words show

settled-marks : (k : Sack) → Marks (has_status 0) (place_settled k)
settled-marks k = record { restated = settled-restated k; same = λ p e. free-settled p (eqb-true p.status 0 e) k }

missed-marks : (from : Tsn) (limit : ℕ) → Marks (has_status 0) (missed from limit)
missed-marks from limit = record { restated = missed-restated from limit; same = λ p e. free-missed p (eqb-true p.status 0 e) from limit }

marked-marks : Marks never marked_for_resend
marked-marks = record { restated = marked-restated; same = λ p e. clash e }

module _ (P : Profile) (ws : List ℕ) (l : 8 * P.places ≤ length ws) where
  pub taken-shows : (k : Sack) (from : Tsn) → places_of P (states_by P (has_status 0) (place_settled k) ws) ≡ (sack_taken_in k from (places_of P ws)).places
  taken-shows k from = states-show P (has_status 0) (place_settled k) (settled-marks k) ws l ∙ sym (taken_places k from (places_of P ws))

  pub missed-shows : (from : Tsn) (limit : ℕ) → places_of P (states_by P (has_status 0) (missed from limit) ws) ≡ (missed_all from limit (places_of P ws)).places
  missed-shows from limit = states-show P (has_status 0) (missed from limit) (missed-marks from limit) ws l ∙ sym (missed-places from limit (places_of P ws))

  pub marked-shows : places_of P (states_by P never marked_for_resend ws) ≡ map marked_for_resend (places_of P ws)
  marked-shows = states-show P never marked_for_resend marked-marks ws l
