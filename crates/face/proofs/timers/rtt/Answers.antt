use Rattle.face.specs.FaceAnswerLaws.{answers-alone}
use Rattle.face.specs.FaceLeftLaws.{is-not}
use Rattle.face.proofs.timers.rtt.Goals as goal

pub returns-then-not-is_named : goal.returns-then-not-is_named
returns-then-not-is_named c = λ ns ms cs. is-not _ c.is_named.ensures _ c.if-not-is_named.true c.unserved.ensures

pub returns : goal.returns
returns c = λ ns ms cs. rw (← c.unpack-head.ensures) (answers-alone _ c.is_named.ensures c.if-not-is_named.false c.tell.ensures _ ns _ ms cs (c.rtt-answer.ensures ns ms cs))
