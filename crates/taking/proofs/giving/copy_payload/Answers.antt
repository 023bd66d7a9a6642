use Rattle.taking.proofs.giving.copy_payload.Goals as goal

pub returns : goal.returns
returns c = rw (c.put_all.ensures, c.part-part.ensures)
