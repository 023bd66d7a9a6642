use Rattle.asks.proofs.answer.Answered.over.Goals as goal

pub returns : goal.returns
returns c = rw c.moved.ensures
