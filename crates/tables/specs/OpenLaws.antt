-- A definition of a crate below is opened by its law. Assumes nothing.
use Rattle.std.specs.Prelude.{◌≡◌}
use Rattle.std.proofs.Common.{sym, ◌∙◌}

-- what is z by the law: it is enough to show what z says
pub by-law : {A : Type 0} {x y z : A} → z ≡ y → x ≡ y → x ≡ z
by-law p q = q ∙ sym p
