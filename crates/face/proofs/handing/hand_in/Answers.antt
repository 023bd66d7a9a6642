use Rattle.face.specs.FaceLeftLaws.{tells, is-not, serves}
use Rattle.face.specs.FaceMessages.{handover_left}
use Rattle.face.proofs.handing.hand_in.Goals as goal

pub returns-then-not-is_named : goal.returns-then-not-is_named
returns-then-not-is_named c = λ ns ms cs. is-not _ c.is_named.ensures _ c.if-not-is_named.true (tells c.unserved.ensures)

pub returns : goal.returns
returns c = λ ns ms cs. rw (← c.unpack-head.ensures, ← c.is_yes.ensures) (serves _ c.is_named.ensures (handover_left _) _ c.if-not-is_named.false (c.hand_in-answer.ensures ns ms cs) (tells c.handed.ensures))
