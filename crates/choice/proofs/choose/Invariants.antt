use Rattle.std.proofs.Common.{◌≡◌, ◌+◌, ◌*◌, ◌≤◌}
use Rattle.scans.specs.Upto.{Running}
use Rattle.numbers.specs.Profile.{rail}
use Rattle.choice.specs.Fill.{fill_of, going_in, filling_in}
use Rattle.choice.proofs.choose.Given as goal

abbrev pub invariant-loop-n : goal.invariant-loop-n
invariant-loop-n l = Running (λ f. (going_in rail f).go) (λ f. filling_in rail f (going_in rail f).place) (fill_of l.initial.s l.initial.t l.initial.ns l.initial.l) 26 l._n (fill_of l.s l.t l.ns l.l) × (l.l.count ≡ l._n) × (l.s.path.flight ≤ 8390528 + 65551 * l._n) × (l.l.payload ≤ 8388480 + 65535 * l._n)
