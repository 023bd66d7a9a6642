use Prim.Native.Nat.{ℕ, ◌+◌, ◌<◌, ◌≤◌}
use mathlib.Core.Path.{sym}
use native.Mathlib.Omega.{arith}
use mir.Facts.{Fits-le, Fits-lit}
use Rattle.numbers.specs.Numbering.{circles}
use Rattle.numbers.specs.Profile.{rail}
use Rattle.holding.specs.MessageLaws.{Choosing, choose-start, choose-end}
use Rattle.tables.specs.HeldWords.{held_of}
use Rattle.tables.specs.HeldWordsLaws.{held-long}
use Rattle.tables.specs.Ssns.{ssns_of}
use Rattle.taking.specs.FreeLaws.{used-at, to_used, to_end, choose-free, choose-tried}
use Rattle.taking.proofs.choosing.choose_by.Goals as goal

pub loop-place-init : goal.loop-place-init
loop-place-init c = (choose-start _ _ _ _ _ _ (held-long rail _), c.requires, omega arith)

pub better_at-best-requires : goal.better_at-best-requires
better_at-best-requires c = let u = used-at (held_of rail c.args.words.now) c.loop-place.from c.in-Some.place (sym c.in-Some.ensures) in (omega (arith, u.1, held-long rail c.args.words.now), c.loop-place.invariant.1)

pub overflow_add-from : goal.overflow_add-from
overflow_add-from c =
    let u = used-at (held_of rail c.args.words.now) c.loop-place.from c.in-Some.place (sym c.in-Some.ensures) in
    let l : c.in-Some.place + 1 ≤ 128 = omega (arith, u.1, held-long rail c.args.words.now) in
    Fits-le l (Fits-lit tt)

pub loop-place-smaller : goal.loop-place-smaller
loop-place-smaller c = let u = used-at (held_of rail c.args.words.now) c.loop-place.from c.in-Some.place (sym c.in-Some.ensures) in omega (arith, u.0, u.1, held-long rail c.args.words.now)

pub loop-place-preserved : goal.loop-place-preserved
loop-place-preserved c =
    let u = used-at (held_of rail c.args.words.now) c.loop-place.from c.in-Some.place (sym c.in-Some.ensures) in
    let l : c.in-Some.place < 128 = omega (arith, u.1, held-long rail c.args.words.now) in
    let w = to_used (λ (k : ℕ). Choosing circles rail (held_of rail c.args.words.now) (ssns_of rail c.args.next.now) c.args.point.0 128 k c.loop-place.best) (held_of rail c.args.words.now) c.loop-place.from c.in-Some.place (sym c.in-Some.ensures) (λ k b f v. choose-free circles rail _ _ _ v (omega (arith, b, held-long rail c.args.words.now)) f) c.loop-place.invariant.0 in
    (choose-tried circles rail _ _ _ w l c.better_at-best.ensures.0, c.better_at-best.ensures.1, omega arith)

pub returns : goal.returns
returns c =
    let w = to_end (λ (k : ℕ). Choosing circles rail (held_of rail c.args.words.now) (ssns_of rail c.args.next.now) c.args.point.0 128 k c.loop-place.best) (held_of rail c.args.words.now) c.loop-place.from (omega (arith, c.loop-place.invariant.2, held-long rail c.args.words.now)) (sym c.in_default.ensures) (λ k b f v. choose-free circles rail _ _ _ v (omega (arith, b, held-long rail c.args.words.now)) f) c.loop-place.invariant.0 in
    (choose-end _ _ _ _ _ w (omega (arith, held-long rail c.args.words.now)), c.loop-place.invariant.1)
