use borrow.Author.Rules.{rules}
use Rattle.std.proofs.Common.{tests, ℕ, ◌≡◌, refl, ◌∙◌, Bool, true, false, List, [], ◌∷◌}
use Rattle.std.specs.Prelude.{◌||◌}
use Rattle.std.specs.List.{fold}
use Rattle.std.proofs.lemmas.Iterator.{YieldsList-from_slice}
use Rattle.std.proofs.lemmas.Iterator.Consumers.{fold_from_yields_List}
use Rattle.scans.specs.Scan.{any, either}
use Rattle.kept.specs.Flags.{is_junk}
use Rattle.kept.proofs.flags.has_junk.Goals as goal

fold-any : (junk : Bool) (bytes : List ℕ) → fold (λ a b. a || is_junk b) junk bytes ≡ either junk (any is_junk bytes)
fold-any false [] = refl
fold-any true [] = refl
fold-any false (b ∷ bytes) = fold-any (is_junk b) bytes
fold-any true (b ∷ bytes) = fold-any true bytes

pub returns : goal.returns
returns c =
    fold_from_yields_List _ (λ a b. a || is_junk b) false c.fold.result c.fold.ensures.ran (YieldsList-from_slice c.args.bytes.now cc) (λ a x b q k. search (rules, tests))
    ∙ fold-any false c.args.bytes.now
