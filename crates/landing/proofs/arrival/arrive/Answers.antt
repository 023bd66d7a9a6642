use Rattle.std.proofs.Common.{refl, rules}
use Rattle.std.proofs.lemmas.Result.{err_from_is_err_and}
use Rattle.numbers.specs.RefusalLaws.{refusal-never-none}
use Rattle.landing.specs.LandingLaws.{landed-refused-lent, landed-refused, landed-let-in}
use Rattle.landing.proofs.arrival.arrive.Goals as goal

pub returns-in_err-check_lent : goal.returns-in_err-check_lent
returns-in_err-check_lent c =
    let p = err_from_is_err_and c.from_residual.result c.from_residual.ensures.1 in
    rw (p.1, p.2) (landed-refused-lent _ c.args.lent c.args.cookie.now c.args.echoed c.args.head _ _ _ _ _ _ _ _ c.in_err-check_lent.ensures (refusal-never-none _) refl)

pub returns-in_err-check : goal.returns-in_err-check
returns-in_err-check c =
    let p = err_from_is_err_and c.from_residual-in_err-check.result c.from_residual-in_err-check.ensures.1 in
    rw (p.1, p.2) (landed-refused _ c.args.lent c.args.cookie.now c.args.echoed c.args.head _ _ _ _ _ _ _ _ c.in_ok-check_lent.ensures refl c.heeded-word.ensures c.in_err-check.ensures (refusal-never-none _) refl)

pub returns : goal.returns
returns c = search (rules, landed-let-in _ c.args.lent c.args.cookie.now c.args.echoed c.args.head _ _ _ _ _ _ _ _ c.in_ok-check_lent.ensures refl c.heeded-word.ensures c.in_ok-check.ensures refl c.let_in.ensures.left, c.let_in.ensures.same)
