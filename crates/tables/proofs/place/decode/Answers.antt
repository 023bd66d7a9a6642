use Rattle.tables.specs.PlaceWordsLaws.{place-decoded-by}
use borrow.Author.Rules.{rules}
use Rattle.tables.proofs.place.decode.Goals as goal

pub returns : goal.returns
returns c = place-decoded-by _ _ _ _ _ _ (search rules) (search rules) (search rules) (search rules)
