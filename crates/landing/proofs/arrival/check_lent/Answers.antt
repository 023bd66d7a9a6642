use Rattle.std.proofs.Common.{lt-ltb, le-ltb}
use Rattle.arriving.specs.Arrival.{lent_number}
use Rattle.landing.proofs.arrival.check_lent.Goals as goal
use Rattle.landing.proofs.arrival.check_lent.Goals.{then-area-lt-AREA-via-then-area-lt-AREA, then-area-lt-AREA-via-else-area-lt-AREA+then-out-lt-OUTPUT}

pub returns-then-not-is_sound : goal.returns-then-not-is_sound
unfolding lent_number
returns-then-not-is_sound c = λ ns ms cs. rw (← c.is_sound.ensures ns ms cs, c.if-not-is_sound.true)

pub returns-then-area-lt-AREA : goal.returns-then-area-lt-AREA
unfolding lent_number
returns-then-area-lt-AREA c =
    λ ns ms cs. rw (← c.is_sound.ensures ns ms cs, c.if-not-is_sound.false)
    (elim c.then-area-lt-AREA.branch [
      | then-area-lt-AREA-via-then-area-lt-AREA w ↦ rw (lt-ltb _ _ w.if-area-lt-AREA.true)
      | then-area-lt-AREA-via-else-area-lt-AREA+then-out-lt-OUTPUT w ↦ rw (le-ltb _ _ w.if-area-lt-AREA.false, lt-ltb _ _ w.if-out-lt-OUTPUT.true)
    ])

pub returns : goal.returns
unfolding lent_number
returns c = λ ns ms cs. rw (← c.is_sound.ensures ns ms cs, c.if-not-is_sound.false, le-ltb _ _ c.if-area-lt-AREA.false, le-ltb _ _ c.if-out-lt-OUTPUT.false)
