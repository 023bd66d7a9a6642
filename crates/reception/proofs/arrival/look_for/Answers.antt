use Prim.Native.Nat.{◌+◌, ◌<◌, ◌≤◌, ◌^◌}
use mathlib.Core.Path.{refl, sym, ap, ◌∙◌}
use native.Mathlib.Omega.{arith}
use borrow.Author.Rules.{rules}
use mir.Facts.{Fits-le, Fits-lit}
use Rattle.numbers.specs.Numbering.{ring}
use Rattle.numbers.specs.Profile.{rail}
use Rattle.scans.specs.Scan.{either, or_either}
use Rattle.holding.specs.declared.held.Held.{Held}
use Rattle.tables.specs.HeldWords.{held_of}
use Rattle.tables.specs.HeldWordsLaws.{held-long}
use Rattle.taking.specs.FreeLaws.{used-at}
use Rattle.delivery.specs.LowLaws.{low_by}
use Rattle.delivery.specs.LookLaws.{look-start, look-end}
use Rattle.reception.specs.ReadLaws.{read-used, look-next, look-last}
use Rattle.reception.proofs.arrival.look_for.Goals as goal

pub loop-place-init : goal.loop-place-init
loop-place-init c = (look-start _ _ _ _ _ (held-long rail _), omega arith)

pub overflow_add-from : goal.overflow_add-from
overflow_add-from c =
    let u = used-at (held_of rail c.args.words.now) c.loop-place.from c.in-Some.place (sym c.in-Some.ensures) in
    let l : c.in-Some.place + 1 ≤ 128 = omega (arith, u.1, held-long rail c.args.words.now) in
    Fits-le l (Fits-lit tt)

pub loop-place-smaller : goal.loop-place-smaller
loop-place-smaller c = let u = used-at (held_of rail c.args.words.now) c.loop-place.from c.in-Some.place (sym c.in-Some.ensures) in omega (arith, u.0, u.1, held-long rail c.args.words.now)

pub loop-place-preserved : goal.loop-place-preserved
loop-place-preserved c =
    let u = used-at (held_of rail c.args.words.now) c.loop-place.from c.in-Some.place (sym c.in-Some.ensures) in
    let l : c.in-Some.place < 128 = omega (arith, u.1, held-long rail c.args.words.now) in
    let w = look-next (held-long rail c.args.words.now) c.loop-place.invariant.0 (sym c.in-Some.ensures) in
    (rw (c.from-low.ensures, or_either c.loop-place.held c.is_of-held.result, or_either c.loop-place.clash c.contradict-clash.result) (read-used w l u.2 c.held_at-h.result c.held_at-h.ensures (low_by (ring (2 ^ 32)) rail c.args.keeping _ (search (rules, c.well_formed)) (ap (λ (h : Held). h.used) c.held_at-h.ensures ∙ u.2) c.offset.ensures refl c.is_low.ensures) (ap (either c.loop-place.held) c.is_of-held.ensures) (ap (either c.loop-place.clash) c.contradict-clash.ensures)), omega arith)

pub returns : goal.returns
returns c = look-end (look-last (held-long rail c.args.words.now) c.loop-place.invariant.0 c.loop-place.invariant.1 (sym c.in_default.ensures)) (omega arith) c.of-new.ensures
