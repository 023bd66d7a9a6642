-- What is due is the next expected, on either numbering, and the circle says of it what the line says. Assumes nothing.
use Rattle.std.specs.Prelude.{ℕ, ◌+◌, ◌%◌, ◌≡◌, refl, false, eqb}
use Rattle.std.proofs.Common.{sym, ap, ◌∙◌, eq-eqb, ne_eqb}
use Rattle.std.proofs.Math.Decide.{ℕ_discrete}
use Rattle.numbers.specs.declared.circle.Distance.{Distance}
use Rattle.numbers.specs.declared.circle.Distance.TheVariants.{Ahead, Behind, Opposite}
use Rattle.numbers.specs.Numbering.{Numbering, ring, line, far, NearerThan, far-law}
use Rattle.numbers.specs.ReachLaws.{On, far-here, far-same}
use Rattle.holding.specs.Message.{is_distance_due, is_due_at}

pub due-same : (S : Numbering) (next n : ℕ) → On S next → On S n → is_due_at S next n ≡ eqb n next
unfolding is_due_at
due-same S next n a b = go (ℕ_discrete n next)
  where
    apart : (n ≡ next → ⊥) → (x : Distance) → far S next n ≡ x → is_distance_due x ≡ false
    apart q (Ahead d) e = ne_eqb d 0 (λ z. q (far-same S next n a b (e ∙ ap Ahead z)))
    apart q (Behind d) e = refl
    apart q Opposite e = refl

    go : Dec (n ≡ next) → is_distance_due (far S next n) ≡ eqb n next
    go (yes q) = ap is_distance_due (ap (far S next) q ∙ far-here S next a) ∙ sym (eq-eqb n next q)
    go (no q) = apart q (far S next n) refl ∙ sym (ne_eqb n next q)

pub due-line : (next n : ℕ) → is_due_at line next n ≡ eqb n next
due-line next n = due-same line next n tt tt

-- less than half a circle from the next expected
pub due-law : (h next n : ℕ) → NearerThan h next n → is_due_at (ring (h + h)) (next % (h + h)) (n % (h + h)) ≡ is_due_at line next n
unfolding is_due_at
due-law h next n w = ap is_distance_due (far-law h next n w)
