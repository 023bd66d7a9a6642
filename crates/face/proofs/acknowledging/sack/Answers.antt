use Rattle.face.specs.FaceAcknowledgingLaws.{face-acknowledges}
use Rattle.face.specs.FaceLeftLaws.{tells, is-not}
use Rattle.face.proofs.acknowledging.sack.Goals as goal

pub returns-then-not-is_named : goal.returns-then-not-is_named
returns-then-not-is_named c = λ ns ms cs. is-not _ c.is_named.ensures _ c.if-not-is_named.true (rw (c.unsaid.ensures _) (tells c.unserved.ensures))

pub returns : goal.returns
returns c = λ ns ms cs. rw (← c.unpack-head.ensures) (face-acknowledges _ c.is_named.ensures c.if-not-is_named.false c.said.ensures.call _ ns _ ms cs _ (c.said.ensures.lists _) (c.sack-answer.ensures ns ms cs))
