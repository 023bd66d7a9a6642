use borrow.Author.Rules.{rules}
use Rattle.tables.specs.HeldWordsLaws.{held-decoded-by}
use Rattle.tables.proofs.held.decode.Goals as goal

pub returns : goal.returns
returns c = held-decoded-by _ _ _ _ (search rules) (search rules) (search rules)
