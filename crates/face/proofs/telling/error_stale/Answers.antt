use Rattle.face.specs.FaceAnswerLaws.{face-answers}
use Rattle.face.specs.FaceLeftLaws.{tells, is-not}
use Rattle.face.proofs.telling.error_stale.Goals as goal

pub returns-then-not-is_named : goal.returns-then-not-is_named
returns-then-not-is_named c = λ ns ms cs. is-not _ c.is_named.ensures _ c.if-not-is_named.true (tells c.unserved.ensures)

pub returns : goal.returns
returns c = λ ns ms cs. rw (← c.unpack-head.ensures) (face-answers _ c.is_named.ensures c.if-not-is_named.false c.tell.ensures _ ns _ ms cs (c.error_stale-answer.ensures ns ms cs))
