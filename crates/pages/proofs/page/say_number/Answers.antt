use Rattle.pages.specs.PageLaws.{decimal-is}
use borrow.Author.Rules.{rules}
use Rattle.pages.proofs.page.say_number.Goals as goal

pub returns : goal.returns
returns c = let e = c.decimal-k.ensures in rw (← decimal-is _ _ e.len (search rules), ← e.digits) c.say.ensures
