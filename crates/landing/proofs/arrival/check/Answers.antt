use Rattle.std.proofs.lemmas.Result.{err_from_is_err_and}
use Rattle.packets.specs.ChecksLaws.{size-or-none, sum-or-none, check-refuses}
use Rattle.arriving.specs.TagsLaws.{head-or-none}
use Rattle.arriving.specs.Arrival.{packet_number}
use Rattle.arriving.specs.ArrivalLaws.{chunks-are}
use Rattle.landing.proofs.arrival.check.Goals as goal

pub returns-in_err-check_size : goal.returns-in_err-check_size
unfolding packet_number
returns-in_err-check_size c =
    let p = err_from_is_err_and c.from_residual.result c.from_residual.ensures.1 in
    rw (p.1, p.2) (check-refuses 2 _ _ _ (size-or-none c.args.packet.now) c.in_err-check_size.ensures)

pub returns-in_err-check_sum : goal.returns-in_err-check_sum
unfolding packet_number
returns-in_err-check_sum c =
    let p = err_from_is_err_and c.from_residual-in_err-check_sum.result c.from_residual-in_err-check_sum.ensures.1 in
    rw (p.1, p.2, ← c.in_ok-check_size.ensures) (check-refuses 3 _ _ _ (sum-or-none c.args.packet.now) c.in_err-check_sum.ensures)

pub returns-in_err-check_head : goal.returns-in_err-check_head
unfolding packet_number
returns-in_err-check_head c =
    let p = err_from_is_err_and c.from_residual-in_err-check_head.result c.from_residual-in_err-check_head.ensures.1 in
    rw (p.1, p.2, ← c.in_ok-check_size.ensures, ← c.in_ok-check_sum.ensures, ← c.read_header-h.ensures, ← chunks-are c.args.packet.now 12, ← c.part-s.ensures) (check-refuses 4 _ _ _ (head-or-none _ _ _ _) c.in_err-check_head.ensures)

pub returns : goal.returns
unfolding packet_number
returns c = rw (← c.in_ok-check_size.ensures, ← c.in_ok-check_sum.ensures, ← c.read_header-h.ensures, ← chunks-are c.args.packet.now 12, ← c.part-s.ensures, ← c.in_ok-check_head.ensures) c.check_shape.ensures
