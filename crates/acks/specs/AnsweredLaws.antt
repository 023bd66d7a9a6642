-- Two answers to a SACK, or to T3, that read alike are one. Assumes nothing.
use Rattle.std.specs.Prelude.{◌≡◌, Option, Some, None, Result, Ok, Err}
use Rattle.std.proofs.Common.{sym, ap, refl}
use Rattle.scans.specs.Each.{clash}
use Rattle.numbers.specs.declared.refusal.Refusal.{Refusal}
use Rattle.numbers.specs.RefusalLaws.{refusals-apart, refusal-never-none}
use Rattle.sender.specs.declared.Sender.{Sender}
use Rattle.acks.specs.Acks.{Acked, acked_of, Expired, expired_of}

pub acked-apart : (h : Sender) (r q : Result Sender Refusal) → acked_of h r ≡ acked_of h q → r ≡ q
acked-apart h (Ok a) (Ok b) e = ap (λ (x : Acked). Ok x.head) e
acked-apart h (Ok a) (Err b) e = absurd (refusal-never-none b (sym (ap (λ (x : Acked). x.number) e)))
acked-apart h (Err a) (Ok b) e = absurd (refusal-never-none a (ap (λ (x : Acked). x.number) e))
acked-apart h (Err a) (Err b) e = ap Err (refusals-apart a b (ap (λ (x : Acked). x.number) e))

pub expiries-apart : (h : Sender) (r q : Result (Option Sender) Refusal) → expired_of h r ≡ expired_of h q → r ≡ q
expiries-apart h (Ok (Some a)) (Ok (Some b)) e = ap (λ (x : Expired). Ok (Some x.head)) e
expiries-apart h (Ok (Some a)) (Ok None) e = clash (ap (λ (x : Expired). x.over) e)
expiries-apart h (Ok None) (Ok (Some b)) e = clash (sym (ap (λ (x : Expired). x.over) e))
expiries-apart h (Ok None) (Ok None) e = refl
expiries-apart h (Ok (Some a)) (Err b) e = absurd (refusal-never-none b (sym (ap (λ (x : Expired). x.number) e)))
expiries-apart h (Ok None) (Err b) e = absurd (refusal-never-none b (sym (ap (λ (x : Expired). x.number) e)))
expiries-apart h (Err a) (Ok x) e = absurd (refusal-never-none a (number-of x e))
  where
    number-of : (x : Option Sender) → expired_of h (Err a) ≡ expired_of h (Ok x) → (expired_of h (Err a)).number ≡ 0
    number-of (Some b) e = ap (λ (x : Expired). x.number) e
    number-of None e = ap (λ (x : Expired). x.number) e
expiries-apart h (Err a) (Err b) e = ap Err (refusals-apart a b (ap (λ (x : Expired). x.number) e))
