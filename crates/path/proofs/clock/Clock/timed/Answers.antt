use Rattle.std.proofs.Common.{◌≡◌, ℕ, ◌+◌, ◌-◌, ◌*◌, ◌^◌, min, max, ap, ◌∙◌, lit<}
use Rattle.scans.specs.Upto.{smaller, larger}
use Rattle.path.specs.Clock.{timed}
use Rattle.scans.specs.Upto.{max-larger}
use Rattle.path.specs.LeastLaws.{four-clamped}
use Rattle.path.proofs.clock.Clock.timed.Goals as goal

pub returns : goal.returns
unfolding timed
returns c =
    let w : c.max-rttvar.result ≡ larger c.args.v 1 = c.max-rttvar.ensures ∙ max-larger c.args.v 1 in
    let e : c.clamp-rto.result ≡ larger (smaller (c.args.s + 4 * c.max-rttvar.result) 60000) 1000 =
    c.clamp-rto.ensures ∙ ap (λ (n : ℕ). max 1000 (min n 60000)) (c.saturating_add.ensures ∙ ap (λ (n : ℕ). min (c.args.s + n) (2 ^ 32 - 1)) c.saturating_mul.ensures) ∙ four-clamped c.args.s c.max-rttvar.result 1000 60000 (lit< tt) in
    rw (e, w)
