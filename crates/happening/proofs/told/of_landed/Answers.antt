use Rattle.happening.proofs.told.of_landed.Goals as goal

pub returns : goal.returns
returns c = rw c.plain-told.ensures
