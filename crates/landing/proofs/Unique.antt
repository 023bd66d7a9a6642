-- The promise leaves one outcome: two results, and two contents of all that is lent, that a contract allows are equal. Assumes nothing.
use mathlib.Core.Path.{◌≡◌, sym, ap, ◌∙◌}
use Rattle.landing.specs.Landing.{After}
use Rattle.landing.specs.LandingLaws.{landings-apart}
use Rattle.landing.proofs.arrival.arrive.Reads as arrive-reads

pub arrive-unique : (κs : _) (a : _) (r q : _) (s t : _) → arrive-reads.Post κs a r s → arrive-reads.Post κs a q t
    → (r ≡ q) × (s.1.0.now ≡ t.1.0.now) × (s.1.1.0.now ≡ t.1.1.0.now) × (s.1.1.1.0.now ≡ t.1.1.1.0.now) × (s.1.1.1.1.0.now ≡ t.1.1.1.1.0.now) × (s.1.1.1.1.1.0.now ≡ t.1.1.1.1.1.0.now) × (s.1.1.1.1.1.1.0.now ≡ t.1.1.1.1.1.1.0.now) × (s.1.1.1.1.1.1.1.0.now ≡ t.1.1.1.1.1.1.1.0.now) × (s.1.1.1.1.1.1.1.1.1.1.1.1.0.now ≡ t.1.1.1.1.1.1.1.1.1.1.1.1.0.now)
arrive-unique κs a r q s t x y =
    let e = x ∙ sym y in
    (landings-apart a.0 r q (ap (λ (u : After). u.landed) e), ap (λ (u : After). u.held) e, ap (λ (u : After). u.next) e, ap (λ (u : After). u.places) e, ap (λ (u : After). u.next_out) e, ap (λ (u : After). u.kept) e, ap (λ (u : After). u.area) e, ap (λ (u : After). u.verdicts) e, ap (λ (u : After). u.out) e)
