use Rattle.std.proofs.Common.{◌≡◌, ◌-◌, ◌≤◌, length}
use Rattle.numbers.specs.Profile.{rail}
use Rattle.scans.specs.Scan.{Folding}
use Rattle.sending.specs.HandIn.{chunk_stored}
use Rattle.tables.specs.PlaceWords.{places_of}
use Rattle.messages.specs.MessageWords.{LayingOut}
use Rattle.messages.proofs.lay_out.Given as goal

abbrev pub invariant-loop-i : goal.invariant-loop-i
invariant-loop-i l = LayingOut rail l.m l.n l.initial.t l.i l.k l.t × Folding (chunk_stored rail l.n l.message) (record { chunk = 0; area = l.initial.area }) (places_of rail l.initial.t) 128 l.i (record { chunk = l.k; area = l.area }) × (length l.area ≡ length l.initial.area) × (l.k ≤ l.n)
