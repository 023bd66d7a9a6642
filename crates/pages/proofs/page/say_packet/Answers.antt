use borrow.Author.Tests.{le-leb, lt-leb}
use Rattle.pages.specs.Page.{packet_at}
use Rattle.pages.proofs.page.say_packet.Goals as goal

pub returns-then-s-le-SHOWN : goal.returns-then-s-le-SHOWN
unfolding packet_at
returns-then-s-le-SHOWN c = rw (le-leb _ _ c.if-s-le-SHOWN.true) c.say_rows.ensures

pub returns : goal.returns
unfolding packet_at
returns c = rw (lt-leb _ _ c.if-s-le-SHOWN.false, ← c.part.ensures, ← c.say_rows-to.ensures, ← c.say-end.ensures) c.say_number.ensures
