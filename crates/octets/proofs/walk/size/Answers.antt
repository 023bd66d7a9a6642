use native.Mathlib.Omega.{arith}
use borrow.Author.Tests.{lt-ltb, le-ltb}
use Rattle.octets.specs.Walk.{size as step}
use borrow.Author.Rules.{rules}
use Rattle.octets.proofs.walk.size.Goals as goal

pub returns-then-n-lt4 : goal.returns-then-n-lt4
unfolding step
returns-then-n-lt4 c = (rw (← c.get16-n.ensures, lt-ltb _ _ c.if-n-lt4.true), search rules, search rules)

pub returns : goal.returns
unfolding step
returns c = (rw (← c.get16-n.ensures, le-ltb _ _ c.if-n-lt4.false), omega arith, omega arith)
