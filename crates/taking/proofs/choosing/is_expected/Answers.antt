use Prim.Native.Nat.{◌^◌}
use mathlib.Core.Path.{◌≡◌}
use native.Mathlib.Omega.{arith}
use borrow.Author.Rules.{rules}
use borrow.Author.Tests.{lt-ltb, le-ltb}
use Rattle.numbers.specs.Numbering.{ring}
use Rattle.numbers.specs.Profile.{rail}
use Rattle.holding.specs.DueLaws.{due-same}
use Rattle.holding.specs.HoldingTableLaws.{expected-is}
use Rattle.tables.specs.OpenLaws.{by-law}
use Rattle.taking.proofs.choosing.is_expected.Goals as goal

pub returns-then-h : goal.returns-then-h
returns-then-h c = by-law (expected-is (ring (2 ^ 16)) rail _ _) (rw c.if-h.true)

pub returns-then-stream-lt-STREAMS : goal.returns-then-stream-lt-STREAMS
returns-then-stream-lt-STREAMS c =
    let e : c.from-stream.result ≡ c.args.h.stream.0 = omega (arith, c.from-stream.ensures) in
    by-law (expected-is (ring (2 ^ 16)) rail _ _) (rw (c.if-h.false, ← e, lt-ltb _ _ c.if-stream-lt-STREAMS.true, ← c.ssn_at.ensures, due-same (ring (2 ^ 16)) c.ssn_at.result.0 c.args.h.ssn.0 (search rules) (search rules)))

pub returns-else-stream-lt-STREAMS : goal.returns-else-stream-lt-STREAMS
returns-else-stream-lt-STREAMS c =
    let e : c.from-stream.result ≡ c.args.h.stream.0 = omega (arith, c.from-stream.ensures) in
    by-law (expected-is (ring (2 ^ 16)) rail _ _) (rw (c.if-h.false, ← e, le-ltb _ _ c.if-stream-lt-STREAMS.false))
