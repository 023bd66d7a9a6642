use Rattle.std.proofs.Common.{◌≡◌, ◌+◌, ◌-◌, arith, rules}
use Rattle.numbers.specs.ComeLaws.{lower-start, lower-stop, lower-more, lower-end}
use Rattle.numbers.specs.Keeping.{highest_of}
use Rattle.numbers.proofs.keeping.Keeping.highest.Goals as goal

pub loop-i-init : goal.loop-i-init
unfolding highest_of
loop-i-init c = lower-start _ 128 (search rules)

pub returns-then-self-i : goal.returns-then-self-i
unfolding highest_of
returns-then-self-i c =
    let e : c.loop-i.i - 1 + 1 ≡ c.loop-i.i = omega arith in
    (rw e (lower-stop c.loop-i.invariant c.loop-i-test.true c.if-self-i.true), omega arith)

pub loop-i-preserved : goal.loop-i-preserved
unfolding highest_of
loop-i-preserved c = lower-more c.loop-i.invariant c.if-self-i.false

pub returns : goal.returns
unfolding highest_of
returns c =
    let z : c.loop-i.i ≡ 0 = omega arith in
    (rw z at (lower-end c.loop-i.invariant c.loop-i-test.false), omega arith)
