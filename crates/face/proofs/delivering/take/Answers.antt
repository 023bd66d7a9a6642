use Rattle.face.specs.FaceLeftLaws.{tells, is-not, serves}
use Rattle.face.specs.FaceMessages.{delivery_left}
use Rattle.face.proofs.delivering.take.Goals as goal

pub returns-then-not-is_named : goal.returns-then-not-is_named
returns-then-not-is_named c = λ ms cs. is-not _ c.is_named.ensures _ c.if-not-is_named.true (tells c.unserved.ensures)

pub returns : goal.returns
returns c = λ ms cs. rw (← c.unpack-head.ensures) (serves _ c.is_named.ensures (delivery_left _) _ c.if-not-is_named.false (c.take-answer.ensures ms cs) (tells c.given.ensures))
