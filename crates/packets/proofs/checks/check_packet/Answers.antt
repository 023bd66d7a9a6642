use Rattle.std.proofs.lemmas.Result.{err_from_is_err_and}
use Rattle.std.proofs.Common.{sym, ◌∙◌, arith}
use Rattle.packets.specs.Checks.{form_number, size_number}
use Rattle.packets.specs.ChecksLaws.{size-or-none, sum-or-none, check-refuses, check-passes}
use Rattle.packets.proofs.checks.check_packet.Goals as goal

pub returns-in_err-check_size : goal.returns-in_err-check_size
unfolding form_number
returns-in_err-check_size c =
    let p = err_from_is_err_and c.from_residual.result c.from_residual.ensures.1 in
    rw (p.1, p.2) (check-refuses 2 _ _ _ (size-or-none c.args.s.now) c.in_err-check_size.ensures)

pub returns-in_err-check_sum : goal.returns-in_err-check_sum
unfolding form_number
returns-in_err-check_sum c =
    let p = err_from_is_err_and c.from_residual-in_err-check_sum.result c.from_residual-in_err-check_sum.ensures.1 in
    rw (p.1, p.2) (check-refuses 3 _ _ _ (sum-or-none c.args.s.now) c.in_err-check_sum.ensures ∙ sym (check-passes 2 (size_number c.args.s.now) _ (omega arith) (sym c.in_ok-check_size.ensures)))
