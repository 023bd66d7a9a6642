use mathlib.Core.List.{[], ◌∷◌}
use Rattle.octets.specs.BytesLaws.{laid_more}
use Rattle.octets.proofs.bytes.put_head.Goals as goal

pub returns : goal.returns
returns c = rw (c.put16.ensures, c.put8-2.ensures, c.put8.ensures, laid_more (_ ∷ []) (_ ∷ []) _ 0) (laid_more (_ ∷ _ ∷ []) _ _ 0)
