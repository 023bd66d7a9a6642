use Rattle.numbers.specs.Profile.{rail}
use Rattle.reception.specs.ReceptionLaws.{words-sacked}
use Rattle.incoming.proofs.sack.Goals as goal

pub returns : goal.returns
returns c = let r = c.args.r in let e = c.sack-told.ensures in (rw (e), rw (e) (words-sacked rail r.keeping r.held r.next))
