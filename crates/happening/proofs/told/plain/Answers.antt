use Rattle.happening.proofs.told.plain.Goals as goal

pub returns : goal.returns
returns c = rw (c.no_sack.ensures, c.no_message.ensures)
