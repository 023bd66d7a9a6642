use Rattle.places.proofs.blocks.top.Goals as goal

pub returns : goal.returns
returns c = rw (← c.held.ensures.0) c.last_end.ensures
