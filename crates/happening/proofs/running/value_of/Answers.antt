use Prim.Native.Nat.{ℕ}
use mathlib.Core.Path.{ap, ◌∙◌}
use mathlib.Core.List.{List, ◌++◌}
use native.Mathlib.Omega.{arith}
use lib.ListN.{replicate}
use Rattle.octets.specs.Bytes.{be32, laid}
use Rattle.octets.specs.BytesLaws.{laid_more, laid-is}
use Rattle.events.specs.Happening.{halves}
use Rattle.happening.proofs.running.value_of.Goals as goal

pub returns : goal.returns
unfolding halves
returns c = c.put32-2.ensures ∙ ap (λ (l : List ℕ). laid l 4 (be32 c.args.low)) c.put32.ensures ∙ laid_more (be32 c.args.high) (be32 c.args.low) (replicate 8 0) 0 ∙ laid-is (be32 c.args.high ++ be32 c.args.low) (replicate 8 0) 0 (omega arith)
