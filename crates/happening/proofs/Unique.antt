-- Each promise leaves one outcome: two results, and two contents of a lent record and of a lent buffer, that a contract allows are equal. Assumes nothing.
use mathlib.Core.Path.{◌≡◌, sym, ◌∙◌}
use seplogic.Ra.Ura.{Ura}
use base.Logic.{SProp, ent, id⊢}
use prog.Memory.{Memory}
use prog.Routine.{Routine}
use types.Logic.{Logic}
use contract.Monad.{Fun, conj, fact, fact_i, fact_use}
use denote.Laws.{both_say}
use Rattle.happening.proofs.running.run.Reads as run-reads
use Rattle.happening.proofs.running.run_coded.Reads as run-coded-reads
use Rattle.happening.specs.contracts.happening.happen as happen

pub run-unique : (κs : _) (a : _) (r q : _) (s t : _) → run-reads.Post κs a r s → run-reads.Post κs a q t
    → (r ≡ q) × (s.1.1.0.now ≡ t.1.1.0.now) × (s.1.1.1.0.now ≡ t.1.1.1.0.now) × (s.1.1.1.1.0.now ≡ t.1.1.1.1.0.now) × (s.1.1.1.1.1.1.1.0.now ≡ t.1.1.1.1.1.1.1.0.now)
run-unique κs a r q s t x y = let e = x.0 ∙ sym y.0 in (λ i. (e i).ran, λ i. (e i).received, λ i. (e i).sent, λ i. (e i).verdicts, λ i. (e i).out)

pub run-coded-unique : (κs : _) (a : _) (r q : _) (s t : _) → run-coded-reads.Post κs a r s → run-coded-reads.Post κs a q t
    → (r ≡ q) × (s.1.1.1.0.now ≡ t.1.1.1.0.now) × (s.1.1.1.1.0.now ≡ t.1.1.1.1.0.now) × (s.1.1.1.1.1.0.now ≡ t.1.1.1.1.1.0.now) × (s.1.1.1.1.1.1.1.1.0.now ≡ t.1.1.1.1.1.1.1.1.0.now)
run-coded-unique κs a r q s t x y = let e = x ∙ sym y in (λ i. (e i).ran, λ i. (e i).received, λ i. (e i).sent, λ i. (e i).verdicts, λ i. (e i).out)

-- The same of the thin entry, said of its contract's own clauses: two outcomes that both meet them are equal.
module _ {M : Type 1} {𝓤 : Ura M} (𝓛 : Logic 𝓤) (at_mem : Memory → SProp 𝓤) (run : Routine → Fun 𝓤) where
  pub happen-unique : (κs : _) (a : _) (r q : _) (s t : _)
      → ent 𝓤 (conj 𝓤 ((happen.clauses 𝓛 at_mem run κs a).ensures tt r s) ((happen.clauses 𝓛 at_mem run κs a).ensures tt q t))
      (fact 𝓤 ((r ≡ q) × (s.0.now ≡ t.0.now) × (s.1.1.1.0.now ≡ t.1.1.1.0.now) × (s.1.1.1.1.0.now ≡ t.1.1.1.1.0.now) × (s.1.1.1.1.1.0.now ≡ t.1.1.1.1.1.0.now) × (s.1.1.1.1.1.1.1.1.0.now ≡ t.1.1.1.1.1.1.1.1.0.now)))
  happen-unique κs a r q s t =
      fact_use 𝓤 _ (both_say 𝓛 _ _ (id⊢ 𝓤 _) (id⊢ 𝓤 _)) (λ p. let e = p.0 ∙ sym p.1 in fact_i 𝓤 _ _ (λ i. (e i).ran.told, λ i. (e i).ran.association, λ i. (e i).received, λ i. (e i).sent, λ i. (e i).verdicts, λ i. (e i).out))
