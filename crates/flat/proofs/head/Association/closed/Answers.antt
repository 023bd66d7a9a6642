use Rattle.flat.proofs.head.Association.closed.Goals as goal

pub returns : goal.returns
returns c = rw c.closed.ensures
