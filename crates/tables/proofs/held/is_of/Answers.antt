use Rattle.std.proofs.Common.{◌≡◌, ℕ, Bool, true, false, eqb, get_or, refl, sym, ap, ◌∙◌, eq-eqb, eqb-true}
use Rattle.numbers.specs.Profile.{rail}
use Rattle.scans.specs.Each.{clash}
use Rattle.holding.specs.declared.held.Held.{Held}
use Rattle.holding.specs.Held.{no_held, holds, holds-is, holds-other, holds-unused}
use Rattle.tables.specs.HeldWords.{held_of}
use Rattle.tables.proofs.held.is_of.Goals as goal

-- a used place holds the chunk of its own number alone
by-number : (t : ℕ) (h : Held) → h.used ≡ true → eqb h.tsn.0 t ≡ holds t h
by-number t h u = go (eqb h.tsn.0 t) refl
  where
    go : (b : Bool) → eqb h.tsn.0 t ≡ b → b ≡ holds t h
    go true e = sym (holds-is t h u (eqb-true h.tsn.0 t e))
    go false e = sym (holds-other t h (λ q. clash (sym e ∙ eq-eqb h.tsn.0 t q)))

pub returns-then-is_used : goal.returns-then-is_used
returns-then-is_used c = ap (λ (n : ℕ). eqb n c.args.tsn.0) c.tsn_at.ensures ∙ by-number c.args.tsn.0 (get_or (held_of rail c.args.t.now) c.args.i no_held) (sym c.is_used.ensures ∙ c.if-is_used.true)

pub returns-else-is_used : goal.returns-else-is_used
returns-else-is_used c = c.if-is_used.false ∙ sym (holds-unused _ _ (sym c.is_used.ensures ∙ c.if-is_used.false))
