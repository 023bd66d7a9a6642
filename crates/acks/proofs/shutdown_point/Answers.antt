use borrow.Author.Tests.{ne_eqb}
use borrow.Author.Rules.{rules}
use Rattle.std.proofs.Common.{◌≡◌}
use Rattle.numbers.specs.Refusal.{refusal_number}
use Rattle.numbers.specs.RefusalLaws.{refusal-never-none, refusals-apart}
use Rattle.numbers.specs.declared.refusal.Refusal.TheVariants.{Stale}
use Rattle.acks.specs.Acks.{acked_head, acked_words, shut_head, shut_words}
use Rattle.acks.proofs.shutdown_point.Goals as goal

pub returns-in-Ok : goal.returns-in-Ok
unfolding shut_head shut_words acked_head acked_words
returns-in-Ok c = record { value = rw (← c.none.ensures, ← c.in-Ok.ensures, c.accepted.ensures.value); t_after = rw (← c.none.ensures, ← c.in-Ok.ensures) c.accepted.ensures.t_after }

pub returns-in-Err-Stale : goal.returns-in-Err-Stale
unfolding shut_head shut_words
returns-in-Err-Stale c = let e = rw c.in-Err-Stale.field-0-is at c.in-Err-Stale.ensures in record { value = rw (← c.none.ensures, ← e); t_after = rw (← c.none.ensures, ← e) }

pub returns-in-Err : goal.returns-in-Err
unfolding shut_head shut_words acked_head acked_words
returns-in-Err c = let d : c.in-Err.refusal ≡ Stale → ⊥ = search rules in let m = ne_eqb (refusal_number c.in-Err.refusal) 15 (λ e. d (refusals-apart _ Stale e)) in let n = ne_eqb (refusal_number c.in-Err.refusal) 0 (refusal-never-none _) in record { value = rw (← c.none.ensures, ← c.in-Err.ensures, m, n); t_after = rw (← c.none.ensures, ← c.in-Err.ensures, m, n) }
