use Rattle.steps.specs.VerdictLaws.{part_bytes}
use Rattle.steps.specs.Carrying.{area_in}
use Rattle.rows.specs.TableRows.{heard_data, held_heard}
use Rattle.rows.proofs.carrying.hear_data.Goals as goal

pub returns : goal.returns
unfolding heard_data held_heard area_in
returns c = (rw (← c.chunk_of-c.ensures, ← c.payload-p.ensures.0, ← part_bytes c.payload-p.result c.args.s.now) c.arrive.ensures.0, rw (← c.chunk_of-c.ensures, ← c.payload-p.ensures.0, ← part_bytes c.payload-p.result c.args.s.now) c.arrive.ensures.1, rw (← c.chunk_of-c.ensures, ← c.payload-p.ensures.0, ← part_bytes c.payload-p.result c.args.s.now) c.arrive.ensures.2)
