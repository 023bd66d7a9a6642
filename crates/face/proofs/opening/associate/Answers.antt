use Rattle.face.specs.FaceOpeningLaws.{face-associates}
use Rattle.face.specs.FaceLeftLaws.{tells, is-not}
use Rattle.face.proofs.opening.associate.Goals as goal

pub returns-then-not-is_named : goal.returns-then-not-is_named
returns-then-not-is_named c = is-not _ c.is_named.ensures _ c.if-not-is_named.true (tells c.unserved.ensures)

pub returns : goal.returns
returns c = rw (← c.unpack-head.ensures) (face-associates _ c.is_named.ensures c.if-not-is_named.false c.tell.ensures _ c.associate-answer.ensures.call_done c.associate-answer.ensures.fact)
