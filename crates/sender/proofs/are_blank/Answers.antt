use Rattle.std.proofs.Common.{◌≡◌, ◌+◌, ◌-◌, sym, ap, ◌∙◌, arith, lt-ltb, le-ltb}
use Rattle.numbers.specs.Profile.{rail}
use Rattle.sender.specs.Seen.{blank_for}
use Rattle.sender.specs.BlankLaws.{blank_next, blank-stop, blank-done}
use Rattle.sender.proofs.are_blank.Goals as goal

pub returns-then-i-gt120 : goal.returns-then-i-gt120
returns-then-i-gt120 c = rw (lt-ltb _ _ c.if-i-gt120.true)

pub loop-j-init : goal.loop-j-init
loop-j-init c = let e : (c.args.i + 8) - c.args.i ≡ 8 = omega arith in ap (blank_for rail c.args.t.now c.args.i) e

pub returns-then-not-is_blank : goal.returns-then-not-is_blank
returns-then-not-is_blank c = rw (le-ltb _ _ c.if-i-gt120.false) (blank-stop rail c.args.t.now c.loop-j.j (c.args.i + 8) c.loop-j.invariant c.loop-j-test.true (sym c.is_blank.ensures ∙ c.if-not-is_blank.true))

pub loop-j-preserved : goal.loop-j-preserved
loop-j-preserved c = blank_next rail c.args.t.now c.loop-j.j (c.args.i + 8) c.loop-j.invariant c.loop-j-test.true (sym c.is_blank.ensures ∙ c.if-not-is_blank.false)

pub returns : goal.returns
returns c = rw (le-ltb _ _ c.if-i-gt120.false) (blank-done rail c.args.t.now c.loop-j.j (c.args.i + 8) c.loop-j.invariant c.loop-j-test.false)
