use borrow.Author.Tests.{ne_eqb}
use Rattle.std.proofs.lemmas.Result.{err_from_is_err_and}
use Rattle.numbers.specs.Refusal.{refusal_number}
use Rattle.numbers.specs.RefusalLaws.{refusal-never-none}
use Rattle.acks.specs.Acks.{acked_head, acked_words}
use Rattle.acks.proofs.answered.Goals as goal

pub returns-in_err-judge : goal.returns-in_err-judge
unfolding acked_head acked_words
returns-in_err-judge c = let p = err_from_is_err_and c.from_residual.result c.from_residual.ensures.1 in let n = ne_eqb (refusal_number c.in_err-judge.field-0.0) 0 (refusal-never-none _) in record { value = rw (p.1, p.2, ← c.in_err-judge.ensures, n); t_after = rw (← c.in_err-judge.ensures, n) }

pub returns : goal.returns
unfolding acked_head acked_words
returns c = record { value = rw (← c.in_ok-judge.ensures, c.accepted.ensures.value); t_after = rw (← c.in_ok-judge.ensures) c.accepted.ensures.t_after }
