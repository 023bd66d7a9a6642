-- The table's column "Leaves", for the chunks of a packet: what is told of them says that all is left.
use Rattle.std.specs.Prelude.{ℕ, ◌<◌, ◌≡◌, List, take}
use Rattle.scans.specs.Each.{All}
use Rattle.association.specs.declared.ends.Association.{Association}
use Rattle.arriving.specs.declared.verdict.Verdict.{Verdict}
use Rattle.arriving.specs.declared.arrival.Arrived.{Arrived}

-- a chunk that is refused with a number that leaves all: any but 11 and 14
abbrev pub Barred : Verdict → Type 0
Barred v = (0 < v.number) × (v.number ≡ 11 → ⊥) × (v.number ≡ 14 → ⊥)

-- so are all of a packet. What is said of an unknown chunk, or of one left unread, is no refusal
abbrev pub AllBarred : Arrived → Type 0
AllBarred r = All Barred (take r.count r.verdicts)

-- the record, the area and the output are as they came, and no reply is sent
pub record PacketLeavesAll (a : Association) (area out : List ℕ) (r : Arrived) (area' out' : List ℕ) : Type 0 where
  pub association : r.association ≡ a
  pub held : area' ≡ area
  pub silent : r.length ≡ 0
  pub sent : out' ≡ out
