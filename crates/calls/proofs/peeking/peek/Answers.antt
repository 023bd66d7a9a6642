use Rattle.std.proofs.Common.{ne_eqb}
use Rattle.std.proofs.lemmas.Result.{err_from_is_err_and}
use Rattle.numbers.specs.RefusalLaws.{refusal-never-none}
use Rattle.calls.specs.Peek.{peeked}
use Rattle.calls.proofs.peeking.peek.Goals as goal

pub returns-in_err-check_packet : goal.returns-in_err-check_packet
unfolding peeked
returns-in_err-check_packet c =
    let p = err_from_is_err_and c.from_residual.result c.from_residual.ensures.1 in
    rw (p.1, p.2, ← c.in_err-check_packet.ensures, ne_eqb _ 0 (refusal-never-none c.in_err-check_packet.field-0.0))

pub returns : goal.returns
unfolding peeked
returns c = rw (← c.in_ok-check_packet.ensures, c.see.ensures, c.part.ensures)
