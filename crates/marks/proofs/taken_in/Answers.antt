use borrow.Author.Rules.{rules}
use Prim.Native.Nat.{ℕ}
use lib.Dec.{eqb}
use mathlib.Core.Path.{sym, ap, ◌∙◌}
use borrow.Author.Tests.{eq-eqb, ne_eqb}
use Rattle.numbers.specs.Profile.{rail}
use Rattle.scans.specs.Upto.{larger, top_start, top-more, top-end}
use Rattle.scans.specs.Scan.{sum-start, sum_more, sum-end}
use Rattle.scans.specs.Upto.{max-larger}
use Rattle.places.specs.declared.place.Place.{Place}
use Rattle.places.specs.Sack.{place_settled}
use Rattle.places.specs.PassLaws.{taken-newly, taken-highest, free_bytes, free-offset, same_bytes, same-offset}
use Rattle.tables.specs.PlaceWords.{vacant}
use Rattle.tables.specs.PlaceWordsLaws.{places-long}
use Rattle.tables.specs.PlaceStates.{state-start, state-next, state-more, state-skip}
use Rattle.marks.specs.SkipLaws.{sum-skip, top-skip}
use Rattle.marks.proofs.taken_in.Goals as goal

pub loop-i-init : goal.loop-i-init
loop-i-init c = (state-start _ _ _ _, sum-start _ _ _ 128 (places-long rail _), top_start _ _ 128 (places-long rail _))

pub loop-i-preserved-then-status_at-eq-FREE : goal.loop-i-preserved-then-status_at-eq-FREE
loop-i-preserved-then-status_at-eq-FREE c = let w = c.loop-i.invariant in let h = c.loop-i-test.true in let z = sym c.status_at.ensures ∙ c.if-status_at-eq-FREE.true in let y = ap (λ (p : Place). p.status) (sym (state-next w.0 h)) ∙ z in (state-skip w.0 h (eq-eqb _ _ z), sum-skip w.1 vacant h (free_bytes _ y _), top-skip w.2 vacant h (free-offset _ y _ _))

pub loop-i-preserved-then-q-p : goal.loop-i-preserved-then-q-p
loop-i-preserved-then-q-p c = let w = c.loop-i.invariant in let h = c.loop-i-test.true in let e = c.place_at-p.ensures in let f = e ∙ state-next w.0 h in let s = c.settled-q.ensures in let u = c.if-q-p.true in (state-more w.0 h (ap (λ (s : ℕ). eqb s 0) (sym c.status_at.ensures) ∙ ne_eqb _ _ c.if-status_at-eq-FREE.false) (s ∙ ap (place_settled c.args.k) e) c.put_state.ensures, sum-skip w.1 vacant h (rw f at (rw s at (same_bytes c.place_at-p.result c.settled-q.result u))), top-skip w.2 vacant h (rw f at (rw s at (same-offset c.place_at-p.result c.settled-q.result u c.args.from))))

pub overflow_add-newly : goal.overflow_add-newly
overflow_add-newly c = search (rules, c.loop-i.invariant.1.below, c.loop-i.invariant.1.within, c.loop-i-test.true, c.newly_bytes-newly.ensures.1)

pub loop-i-preserved : goal.loop-i-preserved
loop-i-preserved c = let w = c.loop-i.invariant in let h = c.loop-i-test.true in let e = c.place_at-p.ensures in let f = e ∙ state-next w.0 h in let s = c.settled-q.ensures in (state-more w.0 h (ap (λ (s : ℕ). eqb s 0) (sym c.status_at.ensures) ∙ ne_eqb _ _ c.if-status_at-eq-FREE.false) (s ∙ ap (place_settled c.args.k) e) c.put_state-in-loop-i.ensures, sum_more w.1 vacant _ h (rw f at (rw s at c.newly_bytes-newly.ensures.0)) c.newly_bytes-newly.ensures.1, top-more w.2 vacant _ h (c.max-highest.ensures ∙ max-larger c.loop-i.highest c.newly_offset.result ∙ ap (λ (n : ℕ). larger c.loop-i.highest n) (rw f at (rw s at c.newly_offset.ensures))))

pub returns-clause-newly_after : goal.returns-clause-newly_after
returns-clause-newly_after c = let w = c.loop-i.invariant in let d = c.loop-i-test.false in (sum-end w.1 d ∙ sym (taken-newly _ _ _), top-end w.2 d ∙ sym (taken-highest _ _ _))
