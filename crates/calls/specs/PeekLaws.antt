-- What is told by its number is told whole. Assumes nothing.
use Rattle.std.specs.Prelude.{◌≡◌, Result, Ok, Err}
use Rattle.std.proofs.Common.{ap}
use Rattle.numbers.specs.declared.refusal.Refusal.{Refusal}
use Rattle.numbers.specs.Refusal.{refusal_number}
use Rattle.numbers.specs.RefusalLaws.{refusals-apart}
use Rattle.calls.specs.Peek.{told_by_number}

pub told-numbers-apart : {A : Type 0} (r q : Result A Refusal) → told_by_number r ≡ told_by_number q → r ≡ q
told-numbers-apart (Ok x) (Ok y) e = let z : x ≡ y = cc in ap Ok z
told-numbers-apart (Ok x) (Err b) e = cc
told-numbers-apart (Err a) (Ok y) e = cc
told-numbers-apart (Err a) (Err b) e =
    let z : refusal_number a ≡ refusal_number b = cc in ap Err (refusals-apart a b z)
