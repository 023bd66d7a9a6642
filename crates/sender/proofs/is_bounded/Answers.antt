use Prim.Native.Nat.{◌-◌}
use borrow.Author.Tests.{lt-ltb, le-ltb, eq-eqb, ne_eqb}
use mathlib.Core.Path.{sym, ap}
use mathlib.Core.Bool.{not, false}
use lib.ListN.{replicate}
use Rattle.numbers.specs.Profile.{rail}
use Rattle.path.specs.Sizes.{rail_sizes}
use Rattle.sending.specs.SendingBounds.{has_gap}
use Rattle.sending.specs.SurveyLaws.{survey-flight, survey-sent, survey-waiting}
use Rattle.sending.specs.SendingTableLaws.{bounded-is, gap_is}
use Rattle.tables.specs.OpenLaws.{by-law}
use Rattle.sender.specs.Seen.{sending_shown}
use Rattle.sender.specs.BlankLaws.{survey-none, next-follows}
use Rattle.sender.proofs.is_bounded.Goals.{then-v-via-then-v, then-v-via-else-v+then-ahead-lt1}
use Rattle.sender.proofs.is_bounded.Goals as goal

pub returns-then-not-is_within : goal.returns-then-not-is_within
returns-then-not-is_within c = λ ns. by-law (bounded-is rail_sizes rail _) (rw (← c.is_within.ensures, c.if-not-is_within.true))

pub returns-then-s-eq0 : goal.returns-then-s-eq0
returns-then-s-eq0 c = λ ns. let s = sending_shown rail c.args.s c.args.t.now ns in let w = survey-none rail c.args.t.now c.args.s.acked c.args.s.oldest c.blank_before-start.result c.if-start-ge-PLACES.true c.blank_before-start.ensures.1 c.blank_before-start.ensures.0 in by-law (bounded-is rail_sizes rail s) (rw (← c.is_within.ensures, c.if-not-is_within.false, survey-flight rail s w, eq-eqb _ _ (sym c.if-s-eq0.true), ← w.odd, ← c.ahead_of-ahead.ensures, survey-sent rail s w (c.ahead_of-ahead.result - 1), survey-waiting rail s w) (next-follows c.ahead_of-ahead.result (has_gap (replicate 128 false)) _ (gap_is (replicate 128 false) 0) (ap not (gap_is (replicate 128 false) 0))))

pub returns-else-s-eq0 : goal.returns-else-s-eq0
returns-else-s-eq0 c = λ ns. let s = sending_shown rail c.args.s c.args.t.now ns in let w = survey-none rail c.args.t.now c.args.s.acked c.args.s.oldest c.blank_before-start.result c.if-start-ge-PLACES.true c.blank_before-start.ensures.1 c.blank_before-start.ensures.0 in by-law (bounded-is rail_sizes rail s) (rw (ne_eqb _ _ c.if-s-eq0.false, ← c.is_within.ensures, c.if-not-is_within.false, survey-flight rail s w, ne_eqb _ _ (λ q. c.if-s-eq0.false (sym q))))

pub returns-then-v-s : goal.returns-then-v-s
returns-then-v-s c = λ ns. let s = sending_shown rail c.args.s c.args.t.now ns in let w = c.survey_of-v.ensures in by-law (bounded-is rail_sizes rail s) (rw (← c.is_within.ensures, c.if-not-is_within.false, survey-flight rail s w, ne_eqb _ _ c.if-v-s.true))

pub returns-then-v : goal.returns-then-v
returns-then-v c = λ ns. let s = sending_shown rail c.args.s c.args.t.now ns in let z = c.survey_of-v.ensures in
    elim c.then-v.branch [
      | then-v-via-then-v w ↦ by-law (bounded-is rail_sizes rail s) (rw (← c.is_within.ensures, c.if-not-is_within.false, survey-flight rail s z, eq-eqb _ _ c.if-v-s.false, ← z.odd, w.if-v.true))
      | then-v-via-else-v+then-ahead-lt1 w ↦ by-law (bounded-is rail_sizes rail s) (rw (← c.is_within.ensures, c.if-not-is_within.false, survey-flight rail s z, eq-eqb _ _ c.if-v-s.false, ← z.odd, w.if-v.false, ← c.ahead_of-ahead.ensures, lt-ltb _ _ w.if-ahead-lt1.true))
    ]

pub returns-then-is_successive : goal.returns-then-is_successive
returns-then-is_successive c = λ ns. let s = sending_shown rail c.args.s c.args.t.now ns in let w = c.survey_of-v.ensures in by-law (bounded-is rail_sizes rail s) (rw (← c.is_within.ensures, c.if-not-is_within.false, survey-flight rail s w, eq-eqb _ _ c.if-v-s.false, ← w.odd, c.if-v.false, ← c.room.ensures, ← c.ahead_of-ahead.ensures, le-ltb _ _ c.if-ahead-lt1.false, survey-sent rail s w c.room.result, ← c.is_successive.ensures, c.if-is_successive.true, survey-waiting rail s w) c.is_successive-then-is_successive.ensures)

pub returns-else-is_successive : goal.returns-else-is_successive
returns-else-is_successive c = λ ns. let s = sending_shown rail c.args.s c.args.t.now ns in let w = c.survey_of-v.ensures in by-law (bounded-is rail_sizes rail s) (rw (← c.is_within.ensures, c.if-not-is_within.false, survey-flight rail s w, eq-eqb _ _ c.if-v-s.false, ← w.odd, c.if-v.false, ← c.room.ensures, ← c.ahead_of-ahead.ensures, le-ltb _ _ c.if-ahead-lt1.false, survey-sent rail s w c.room.result, ← c.is_successive.ensures, c.if-is_successive.false))
