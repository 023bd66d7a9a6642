use Rattle.pages.specs.Page.{byte_text}
use Rattle.pages.proofs.page.say_byte.Goals as goal

pub returns : goal.returns
unfolding byte_text
returns c = rw (← c.letter.ensures, ← c.letter-2.ensures) c.say.ensures
