use Rattle.std.proofs.Common.{lt-ltb, le-ltb, inl, inr, arith, ◌≤◌}
use Rattle.sending.specs.SendingBounds.{spot_of}
use Rattle.sending.proofs.bounds.spot_of.Goals as goal

pub returns-then-k : goal.returns-then-k
unfolding spot_of
returns-then-k c = elim c.if-k.either [
  | inl h ↦ (rw h, omega arith)
  | inr h ↦ let l : 1 ≤ c.args.k = omega (arith, h.0) in (rw (le-ltb _ _ l, lt-ltb _ _ h.1), omega arith)
]

pub returns-else-k : goal.returns-else-k
unfolding spot_of
returns-else-k c = let l : 1 ≤ c.args.k = omega (arith, c.if-k.false.0) in (rw (le-ltb _ _ l, le-ltb _ _ c.if-k.false.1), omega (arith, c.if-k.false.1))
