use borrow.Author.Tests.{lt-ltb, le-ltb, lt-leb}
use Rattle.numbers.specs.Profile.{rail}
use Rattle.path.specs.Sizes.{rail_sizes}
use Rattle.sending.specs.SendingTableLaws.{within-is}
use Rattle.tables.specs.OpenLaws.{by-law}
use Rattle.sender.proofs.is_within.Goals as goal

pub returns-then-s-le-MODE : goal.returns-then-s-le-MODE
returns-then-s-le-MODE c = λ ns. by-law (within-is rail_sizes rail _) (rw (le-ltb _ _ c.if-s-le-MODE.true) (c.is_bounded.ensures ns))

pub returns-else-s-le-MODE : goal.returns-else-s-le-MODE
returns-else-s-le-MODE c = λ ns. by-law (within-is rail_sizes rail _) (rw (lt-ltb _ _ c.if-s-le-MODE.false, lt-leb _ _ c.if-s-le-MODE.false))
