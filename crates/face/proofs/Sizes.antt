-- How the head that C lends lies in memory: the size of each struct, then where its fields begin. `tests/header` holds C's account of them against these numbers.
-- Assumes nothing.
use Prim.Native.Nat.{ℕ, zero, suc, ◌+◌}
use mathlib.Core.Path.{◌≡◌, refl}
use mathlib.Core.List.{List, [], ◌∷◌}
use mir.Syntax.{Ty, ty_int, ty_bool, ty_float, ty_ptr, ty_ref, ty_array, ty_unit, ty_struct, ty_enum, ty_param, ty_const, ty_array_p, ty_named, Tys, tnil, tcons}
use prog.Memory.{align, size, up}
use Rattle.kept.proofs.head.Kept.TheLaws as K'

-- the fields of a struct; of an array, its element
abbrev parts : Ty → Tys
parts (ty_int w) = tnil
parts ty_bool = tnil
parts (ty_float f) = tnil
parts ty_ptr = tnil
parts (ty_ref κ μ τ) = tnil
parts (ty_array τ n) = tcons τ tnil
parts ty_unit = tnil
parts (ty_struct ν τs) = τs
parts (ty_enum ν τss) = tnil
parts (ty_param i) = tnil
parts (ty_const n) = tnil
parts (ty_array_p τ i) = tcons τ tnil
parts (ty_named ν θ) = tnil

abbrev nth : Tys → ℕ → Ty
nth tnil k = ty_unit
nth (tcons τ τs) zero = τ
nth (tcons τ τs) (suc k) = nth τs k

abbrev within : Ty → ℕ → Ty
within τ k = nth (parts τ) k

abbrev starts : ℕ → Tys → List ℕ
starts e tnil = []
starts e (tcons τ τs) = up (align τ) e ∷ starts (up (align τ) e + size τ) τs

abbrev laid : Ty → List ℕ
laid τ = size τ ∷ starts zero (parts τ)

-- ---- from the outside in

pub head-laid : laid K'.mir ≡ 296 ∷ 0 ∷ 1 ∷ 2 ∷ 4 ∷ 24 ∷ 232 ∷ []
head-laid = refl

pub ends-laid : laid (within K'.mir 3) ≡ 20 ∷ 0 ∷ 2 ∷ 4 ∷ 8 ∷ 12 ∷ 14 ∷ 16 ∷ []
ends-laid = refl

pub keeping-laid : laid (within K'.mir 4) ≡ 208 ∷ 0 ∷ 4 ∷ 132 ∷ 200 ∷ []
keeping-laid = refl

abbrev sender : Ty
sender = within K'.mir 5

pub sender-laid : laid sender ≡ 64 ∷ 0 ∷ 4 ∷ 8 ∷ 12 ∷ 16 ∷ 60 ∷ []
sender-laid = refl

abbrev path : Ty
path = within sender 4

pub path-laid : laid path ≡ 44 ∷ 0 ∷ 12 ∷ 28 ∷ 32 ∷ 36 ∷ 40 ∷ []
path-laid = refl

pub control-laid : laid (within path 0) ≡ 12 ∷ 0 ∷ 4 ∷ 8 ∷ []
control-laid = refl

pub clock-laid : laid (within path 1) ≡ 16 ∷ 0 ∷ 4 ∷ 8 ∷ 12 ∷ []
clock-laid = refl
