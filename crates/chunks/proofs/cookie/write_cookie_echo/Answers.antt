use Rattle.std.proofs.Common.{rules, arith, ◌≤◌, length}
use Rattle.chunks.specs.CookieLaws.{echo-is, echo-not}
use Rattle.chunks.proofs.cookie.write_cookie_echo.Goals as goal

pub returns-then-not-contains : goal.returns-then-not-contains
returns-then-not-contains c = echo-not c.args.cookie.now (search rules)

pub returns : goal.returns
returns c =
    let h : (1 ≤ length c.args.cookie.now) × (length c.args.cookie.now ≤ 256) = search rules in
    rw (echo-is _ h.1 (λ e. omega (arith, e, h.0))) c.write.ensures
