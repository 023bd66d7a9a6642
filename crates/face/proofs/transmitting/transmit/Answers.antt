use Rattle.face.specs.FaceLeftLaws.{tells, is-not, serves}
use Rattle.face.specs.FaceTransmit.{dispatch_left}
use Rattle.face.proofs.transmitting.transmit.Goals as goal

pub returns-then-not-is_named : goal.returns-then-not-is_named
returns-then-not-is_named c = λ ns cs. is-not _ c.is_named.ensures _ c.if-not-is_named.true (tells c.unserved.ensures)

pub returns : goal.returns
returns c = λ ns cs. rw (← c.unpack-head.ensures) (serves _ c.is_named.ensures dispatch_left _ c.if-not-is_named.false (c.transmit-answer.ensures ns cs) (tells c.sent.ensures))
