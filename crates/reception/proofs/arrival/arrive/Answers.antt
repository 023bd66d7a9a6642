use Prim.Native.Nat.{◌^◌}
use mathlib.Core.Path.{refl, sym, ◌∙◌}
use lib.ListN.{length}
use Rattle.numbers.specs.Numbering.{ring, circles}
use Rattle.numbers.specs.Profile.{rail}
use Rattle.holding.specs.Held.{as_held}
use Rattle.delivery.specs.ArrivalLaws.{kept-coming}
use Rattle.reception.specs.Reception.{receiving_shown}
use Rattle.reception.specs.ReceptionLaws.{kept-keeping, noted-keeping, passed-keeping, left_by, left_alone}
use Rattle.reception.proofs.arrival.arrive.Goals as goal

pub keep-requires : goal.keep-requires
keep-requires c = (kept-coming _ _ _ _ _ (sym c.judge-verdict.ensures ∙ c.in-Kept.is)).0.fits

pub returns-in-Kept : goal.returns-in-Kept
returns-in-Kept c = left_by circles rail (receiving_shown rail c.args.keeping c.args.words.now c.args.next.now) (as_held c.args.c (length c.args.payload.now)) c.args.streams c.args.words.now c.args.area.now c.args.payload.now c.judge-verdict.ensures c.in-Kept.is (kept-keeping (ring (2 ^ 32)) rail (receiving_shown rail c.args.keeping c.args.words.now c.args.next.now) (as_held c.args.c (length c.args.payload.now)) c.keep.ensures.0) c.keep.ensures.1 c.keep.ensures.2

pub returns-in-Duplicate : goal.returns-in-Duplicate
returns-in-Duplicate c = left_by circles rail (receiving_shown rail c.args.keeping c.args.words.now c.args.next.now) (as_held c.args.c (length c.args.payload.now)) c.args.streams c.args.words.now c.args.area.now c.args.payload.now c.judge-verdict.ensures c.in-Duplicate.is (noted-keeping (ring (2 ^ 32)) rail (receiving_shown rail c.args.keeping c.args.words.now c.args.next.now) (as_held c.args.c (length c.args.payload.now)) c.list.ensures) refl refl

pub returns-in-Stray : goal.returns-in-Stray
returns-in-Stray c = left_by circles rail (receiving_shown rail c.args.keeping c.args.words.now c.args.next.now) (as_held c.args.c (length c.args.payload.now)) c.args.streams c.args.words.now c.args.area.now c.args.payload.now c.judge-verdict.ensures c.in-Stray.is (passed-keeping (ring (2 ^ 32)) rail (receiving_shown rail c.args.keeping c.args.words.now c.args.next.now) (as_held c.args.c (length c.args.payload.now)) c.mark.ensures) refl refl

pub returns-in_default : goal.returns-in_default
returns-in_default c = left_alone circles rail (receiving_shown rail c.args.keeping c.args.words.now c.args.next.now) (as_held c.args.c (length c.args.payload.now)) c.args.streams c.args.words.now c.args.area.now c.args.payload.now c.judge-verdict.ensures c.in_default.not-Kept c.in_default.not-Duplicate c.in_default.not-Stray
