use borrow.Author.Tests.{le-ltb, eq-eqb, ne_eqb}
use native.Mathlib.Omega.{arith}
use Prim.Native.Nat.{◌≤◌}
use Rattle.places.specs.Sack.{place_settled}
use Rattle.places.proofs.sack.Sack.settled.Goals.{else-p-eq-BLOCKED-via-then-p-eq-BLOCKED+else-self, else-p-eq-BLOCKED-via-else-p-eq-BLOCKED}
use Rattle.places.proofs.sack.Sack.settled.Goals as goal

pub returns-then-not-is_sent : goal.returns-then-not-is_sent
unfolding place_settled
returns-then-not-is_sent c = rw (← c.is_sent.ensures, c.if-not-is_sent.true)

pub returns-then-offset-eq0 : goal.returns-then-offset-eq0
unfolding place_settled
returns-then-offset-eq0 c = rw (← c.is_sent.ensures, c.if-not-is_sent.false, ← c.offset-offset.ensures, c.if-offset-eq0.true)

pub returns-then-is_blocked : goal.returns-then-is_blocked
unfolding place_settled
returns-then-is_blocked c = let l : 1 ≤ c.offset-offset.result = omega (arith, c.if-offset-eq0.false) in rw (← c.is_sent.ensures, c.if-not-is_sent.false, ← c.offset-offset.ensures, le-ltb _ _ l, ← c.is_blocked.ensures, c.if-is_blocked.true)

pub returns-then-self : goal.returns-then-self
unfolding place_settled
returns-then-self c = let l : 1 ≤ c.offset-offset.result = omega (arith, c.if-offset-eq0.false) in rw (← c.is_sent.ensures, c.if-not-is_sent.false, ← c.offset-offset.ensures, le-ltb _ _ l, ← c.is_blocked.ensures, c.if-is_blocked.false, eq-eqb _ _ c.if-p-eq-BLOCKED.true, c.if-self.true)

pub returns-else-p-eq-BLOCKED : goal.returns-else-p-eq-BLOCKED
unfolding place_settled
returns-else-p-eq-BLOCKED c =
    let l : 1 ≤ c.offset-offset.result = omega (arith, c.if-offset-eq0.false) in
    elim c.else-p-eq-BLOCKED.branch [
      | else-p-eq-BLOCKED-via-then-p-eq-BLOCKED+else-self w ↦ rw (← c.is_sent.ensures, c.if-not-is_sent.false, ← c.offset-offset.ensures, le-ltb _ _ l, ← c.is_blocked.ensures, c.if-is_blocked.false, eq-eqb _ _ w.if-p-eq-BLOCKED.true, w.if-self.false)
      | else-p-eq-BLOCKED-via-else-p-eq-BLOCKED w ↦ rw (← c.is_sent.ensures, c.if-not-is_sent.false, ← c.offset-offset.ensures, le-ltb _ _ l, ← c.is_blocked.ensures, c.if-is_blocked.false, ne_eqb _ _ w.if-p-eq-BLOCKED.false)
    ]
