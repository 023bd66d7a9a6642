use Prim.Native.Nat.{◌+◌, ◌<◌, ◌≤◌, ◌^◌}
use mathlib.Core.Path.{refl, sym, ap, ◌∙◌}
use native.Mathlib.Omega.{arith}
use borrow.Author.Rules.{rules}
use mir.Facts.{Fits-le, Fits-lit}
use Rattle.numbers.specs.Numbering.{ring}
use Rattle.numbers.specs.KeepingLaws.{offset-far}
use Rattle.numbers.specs.Profile.{rail}
use Rattle.std.proofs.Common.{inl, inr}
use Rattle.scans.specs.Scan.{seek-yes, seek-no}
use Rattle.holding.specs.declared.held.Held.{Held}
use Rattle.holding.specs.Held.{no_held}
use Rattle.tables.specs.HeldWords.{held_of}
use Rattle.tables.specs.HeldWordsLaws.{held-long}
use Rattle.taking.specs.FreeLaws.{used-at}
use Rattle.delivery.specs.Receiving.{is_low}
use Rattle.delivery.specs.ReceivingBounds.{is_unfit}
use Rattle.delivery.specs.ReceivingBoundsLaws.{weight-unfit, weight-twice, unfit-used}
use Rattle.delivery.specs.LowLaws.{low_by, count_by}
use Rattle.reception.specs.ReadLaws.{weigh-start, weigh-used, weigh-end, read_noted, read_held}
use Rattle.reception.proofs.bounds.weight.Goals.{else-seen-d-via-then-seen-d+else-is_held_before, else-seen-d-via-else-seen-d}
use Rattle.reception.proofs.bounds.weight.Goals as goal

pub returns-in_default : goal.returns-in_default
returns-in_default c =
    let w = weigh-end (ring (2 ^ 32)) rail c.args.keeping (held_of rail c.args.words.now) 128 _ 0 0 (held-long rail c.args.words.now) (omega arith) (sym c.in_default.ensures) (weigh-start (ring (2 ^ 32)) rail c.args.keeping (held_of rail c.args.words.now) 128 (held-long rail c.args.words.now)) in
    (w.0, omega arith)

pub loop-place-init : goal.loop-place-init
loop-place-init c =
    let u = used-at (held_of rail c.args.words.now) 0 c.in-Some.first (sym c.in-Some.ensures) in
    (weigh-used (ring (2 ^ 32)) rail c.args.keeping (held_of rail c.args.words.now) 128 _ 0 0 c.in-Some.first (held-long rail c.args.words.now) (sym c.in-Some.ensures) (weigh-start (ring (2 ^ 32)) rail c.args.keeping (held_of rail c.args.words.now) 128 (held-long rail c.args.words.now)), omega (arith, u.1, held-long rail c.args.words.now))

pub returns-then-is_misfit : goal.returns-then-is_misfit
returns-then-is_misfit c =
    let u = used-at (held_of rail c.args.words.now) c.loop-place.from c.in-Some-next_used.place (sym c.in-Some-next_used.ensures) in
    let l : c.in-Some-next_used.place < 128 = omega (arith, u.1, held-long rail c.args.words.now) in
    let w = weigh-used (ring (2 ^ 32)) rail c.args.keeping (held_of rail c.args.words.now) 128 c.loop-place.seen c.loop-place.low c.loop-place.from c.in-Some-next_used.place (held-long rail c.args.words.now) (sym c.in-Some-next_used.ensures) c.loop-place.invariant.0 in
    (weight-unfit (ring (2 ^ 32)) rail c.args.keeping (held_of rail c.args.words.now) (seek-yes w.1 no_held l (ap (is_unfit rail) (sym c.held_at-h.ensures) ∙ (unfit-used rail _ (ap (λ (h : Held). h.used) c.held_at-h.ensures ∙ u.2) ∙ (sym c.is_misfit.ensures ∙ c.if-is_misfit.true)))), tt)

pub is_held_before-requires : goal.is_held_before-requires
is_held_before-requires c = let u = used-at (held_of rail c.args.words.now) c.loop-place.from c.in-Some-next_used.place (sym c.in-Some-next_used.ensures) in omega (arith, u.1, held-long rail c.args.words.now)

pub returns-then-is_held_before : goal.returns-then-is_held_before
returns-then-is_held_before c =
    let u = used-at (held_of rail c.args.words.now) c.loop-place.from c.in-Some-next_used.place (sym c.in-Some-next_used.ensures) in
    let l : c.in-Some-next_used.place < 128 = omega (arith, u.1, held-long rail c.args.words.now) in
    let w = weigh-used (ring (2 ^ 32)) rail c.args.keeping (held_of rail c.args.words.now) 128 c.loop-place.seen c.loop-place.low c.loop-place.from c.in-Some-next_used.place (held-long rail c.args.words.now) (sym c.in-Some-next_used.ensures) c.loop-place.invariant.0 in
    (weight-twice (ring (2 ^ 32)) rail c.args.keeping (held_of rail c.args.words.now) (read_held w.0 l u.2 c.held_at-h.result c.held_at-h.ensures c.slot-d.ensures.0 c.is_held_before.ensures c.if-is_held_before.true), tt)

pub overflow_add-from : goal.overflow_add-from
overflow_add-from c =
    let u = used-at (held_of rail c.args.words.now) c.loop-place.from c.in-Some-next_used.place (sym c.in-Some-next_used.ensures) in
    let l : c.in-Some-next_used.place + 1 ≤ 128 = omega (arith, u.1, held-long rail c.args.words.now) in
    Fits-le l (Fits-lit tt)

pub loop-place-smaller : goal.loop-place-smaller
loop-place-smaller c = let u = used-at (held_of rail c.args.words.now) c.loop-place.from c.in-Some-next_used.place (sym c.in-Some-next_used.ensures) in omega (arith, u.0, u.1, held-long rail c.args.words.now)

pub loop-place-preserved : goal.loop-place-preserved
loop-place-preserved c =
    let u = used-at (held_of rail c.args.words.now) c.loop-place.from c.in-Some-next_used.place (sym c.in-Some-next_used.ensures) in
    let l : c.in-Some-next_used.place < 128 = omega (arith, u.1, held-long rail c.args.words.now) in
    let w = weigh-used (ring (2 ^ 32)) rail c.args.keeping (held_of rail c.args.words.now) 128 c.loop-place.seen c.loop-place.low c.loop-place.from c.in-Some-next_used.place (held-long rail c.args.words.now) (sym c.in-Some-next_used.ensures) c.loop-place.invariant.0 in
    let n = read_noted w.0 l u.2 c.held_at-h.result c.held_at-h.ensures c.slot-d.ensures.0 c.slot-d.ensures.1 (elim c.else-seen-d.branch [ else-seen-d-via-then-seen-d+else-is_held_before v ↦ inr (sym v.if-is_held_before.false ∙ v.is_held_before.ensures) | else-seen-d-via-else-seen-d v ↦ inl v.if-seen-d.false ]) in
    ((n, seek-no w.1 no_held l (ap (is_unfit rail) (sym c.held_at-h.ensures) ∙ (unfit-used rail _ (ap (λ (h : Held). h.used) c.held_at-h.ensures ∙ u.2) ∙ (sym c.is_misfit.ensures ∙ c.if-is_misfit.false))), rw c.from-low.ensures (count_by w.2 no_held l (low_by (ring (2 ^ 32)) rail c.args.keeping _ (search (rules, c.well_formed)) (ap (λ (h : Held). h.used) c.held_at-h.ensures ∙ u.2) (sym (offset-far (ring (2 ^ 32)) c.args.keeping _)) refl c.is_low_at.ensures ∙ ap (is_low (ring (2 ^ 32)) c.args.keeping) c.held_at-h.ensures))), omega arith)

pub returns : goal.returns
returns c = let w = weigh-end (ring (2 ^ 32)) rail c.args.keeping (held_of rail c.args.words.now) 128 c.loop-place.seen c.loop-place.low c.loop-place.from (held-long rail c.args.words.now) c.loop-place.invariant.1 (sym c.in_default-next_used.ensures) c.loop-place.invariant.0 in (w.0, w.1)
