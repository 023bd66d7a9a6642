-- Two answers to a message handed in that read alike are one. Assumes nothing.
use Rattle.std.specs.Prelude.{ℕ, ◌≡◌, Result, Ok, Err}
use Rattle.std.proofs.Common.{sym, ap}
use Rattle.numbers.specs.declared.refusal.Refusal.{Refusal}
use Rattle.numbers.specs.RefusalLaws.{refusals-apart, refusal-never-none}
use Rattle.messages.specs.MessageWords.{Handing, handing_of}

pub handings-apart : (r q : Result ℕ Refusal) → handing_of r ≡ handing_of q → r ≡ q
handings-apart (Ok m) (Ok n) e = ap Ok (ap (λ (h : Handing). h.chunks) e)
handings-apart (Ok m) (Err b) e = absurd (refusal-never-none b (sym (ap (λ (h : Handing). h.number) e)))
handings-apart (Err a) (Ok n) e = absurd (refusal-never-none a (ap (λ (h : Handing). h.number) e))
handings-apart (Err a) (Err b) e = ap Err (refusals-apart a b (ap (λ (h : Handing). h.number) e))
