-- All that a call over what C lends leaves.
use Rattle.std.specs.Prelude.{ℕ, List}
use Rattle.kept.specs.declared.head.Kept.{Kept}
use Rattle.kept.specs.Kept.{named}

-- the number, the head as the host keeps it, and the words told beside the number
pub record CallTold : Type 0 where
  pub number : ℕ
  pub kept : Kept
  pub words : List ℕ

abbrev pub call_told_of : ℕ → Kept → List ℕ → CallTold
call_told_of n k ws = record { number = n; kept = k; words = ws }

-- and what stands in the buffers that it was lent
pub record CallLeft (X : Type 0) : Type 0 where
  pub told : CallTold
  pub lent : X

abbrev pub left_with : {X : Type 0} → CallTold → X → CallLeft X
left_with t x = record { told = t; lent = x }

-- 1 "record outside its bounds … all", where the head is not named: the head and what is lent stay, and the words are zeros
abbrev pub unserved : {X : Type 0} → Kept → List ℕ → X → CallLeft X
unserved k zeros x = left_with (call_told_of 1 k zeros) x

-- what is left where the head is named, or that
abbrev pub served : {X : Type 0} → Kept → CallLeft X → List ℕ → X → CallLeft X
served k l zeros x = named k l (unserved k zeros x)
