use Rattle.face.specs.FaceLeftLaws.{tells, is-not, serves}
use Rattle.face.specs.FaceAnswer.{lapse_left}
use Rattle.face.proofs.timers.t3.Goals as goal

pub returns-then-not-is_named : goal.returns-then-not-is_named
returns-then-not-is_named c = λ ns ms cs. is-not _ c.is_named.ensures _ c.if-not-is_named.true (tells c.unserved.ensures)

pub returns : goal.returns
returns c = λ ns ms cs. rw (← c.unpack-head.ensures) (serves _ c.is_named.ensures lapse_left _ c.if-not-is_named.false (c.t3-answer.ensures ns ms cs) (tells c.tell.ensures))
