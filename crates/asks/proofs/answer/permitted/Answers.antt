use Rattle.calls.specs.Answer.{barred}
use Rattle.asks.proofs.answer.permitted.Goals as goal

pub returns-then-not-is_sound : goal.returns-then-not-is_sound
unfolding barred
returns-then-not-is_sound c = λ ns ms cs. rw (← c.is_sound.ensures ns ms cs, c.if-not-is_sound.true)

pub returns-then-short : goal.returns-then-short
unfolding barred
returns-then-short c = λ ns ms cs. rw (← c.is_sound.ensures ns ms cs, c.if-not-is_sound.false, c.if-short.true)

pub returns-then-not-permits : goal.returns-then-not-permits
unfolding barred
returns-then-not-permits c = λ ns ms cs. rw (← c.is_sound.ensures ns ms cs, c.if-not-is_sound.false, c.if-short.false, ← c.permits.ensures, c.if-not-permits.true)

pub returns : goal.returns
unfolding barred
returns c = λ ns ms cs. rw (← c.is_sound.ensures ns ms cs, c.if-not-is_sound.false, c.if-short.false, ← c.permits.ensures, c.if-not-permits.false)
