use Rattle.std.proofs.Common.{◌∙◌, arith, rules}
use Rattle.sending.specs.SendingTableLaws.{tsn-is}
use Rattle.choice.specs.Fill.{load_after}
use Rattle.choice.proofs.loaded.Goals as goal

pub returns : goal.returns
unfolding load_after
returns c = (rw (c.saturating_sub.ensures, c.size.ensures, c.is_again.ensures, c.first_of-l.ensures, c.tsn_of-l.ensures ∙ tsn-is _ _, c.from.ensures), omega arith, rw c.from.ensures (search rules))
