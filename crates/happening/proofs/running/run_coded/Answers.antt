use Rattle.happening.proofs.running.run_coded.Goals as goal

pub returns : goal.returns
returns c = rw (← c.of.ensures) c.run.ensures.out_after
