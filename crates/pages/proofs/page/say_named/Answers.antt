use Rattle.pages.specs.Page.{named_at}
use Rattle.pages.proofs.page.say_named.Goals as goal

pub returns : goal.returns
unfolding named_at
returns c = rw (← c.say-to.ensures) c.say_number.ensures
