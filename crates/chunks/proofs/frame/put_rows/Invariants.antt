use Prim.Native.Nat.{ℕ}
use lib.ListN.{length, get_or}
use Rattle.octets.specs.Bytes.{be32}
use Rattle.octets.specs.WritingLaws.{Listing}
use Rattle.chunks.proofs.frame.put_rows.Given as goal

abbrev pub invariant-loop-i : goal.invariant-loop-i
invariant-loop-i l = Listing (λ (k : ℕ). be32 (get_or l.rows k 0)) l.initial.out 4 (length l.rows) l.out l.i
