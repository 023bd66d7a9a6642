use Rattle.face.specs.FaceLeftLaws.{tells, is-not, serves}
use Rattle.face.specs.FaceArrival.{after_left}
use Rattle.face.proofs.arrival.arrive.Goals as goal

pub returns-then-not-is_named : goal.returns-then-not-is_named
returns-then-not-is_named c = is-not _ c.is_named.ensures _ c.if-not-is_named.true (tells c.unserved.ensures)

pub returns : goal.returns
returns c = rw (← c.unpack-head.ensures, ← c.echoed_of-echoed.ensures) (serves _ c.is_named.ensures after_left _ c.if-not-is_named.false c.arrive-answer.ensures (tells c.judged.ensures))
