-- A chunk that a call marks as sent stands in the packet. Assumes nothing.
use Rattle.std.specs.Prelude.{ℕ, ◌<◌, ◌≡◌, refl, List, [], ◌∷◌, map, length, take, get_or}
use Rattle.std.proofs.Common.{ap, ◌∙◌, arith}
use Rattle.scans.specs.Each.{All}
use Rattle.numbers.specs.Profile.{rail}
use Rattle.path.specs.Sizes.{rail_sizes}
use Rattle.sending.specs.Sending.{no_place}
use Rattle.sending.specs.Choose.{packet_filled}
use Rattle.association.specs.declared.ends.Association.{Association}
use Rattle.association.specs.AssociationKeptLaws.{AssociationKept}
use Rattle.calls.specs.Transmit.{chunk_bytes, transmitted, transmitted_out}
use Rattle.calls.specs.Outcomes.{chosen_chunks}
use Rattle.calls.specs.MarkLaws.{transmit-full}
use Rattle.replies.specs.Sent.{chunks_in, some_of}
use Rattle.replies.proofs.SentLaws.{transmit-reads}

some_more : (x : List ℕ) (cs : List (List ℕ)) → 0 < length x → some_of cs ≡ cs → some_of (x ∷ cs) ≡ x ∷ cs
some_more [] cs h e = absurd (omega arith)
some_more (b ∷ bs) cs h e = ap (λ (l : List (List ℕ)). (b ∷ bs) ∷ l) e

some-all : (g : ℕ → List ℕ) (is : List ℕ) → All (λ (i : ℕ). 0 < length (g i)) is → some_of (map g is) ≡ map g is
some-all g [] w = refl
some-all g (i ∷ is) w = some_more (g i) (map g is) w.0 (some-all g is w.1)

-- in a record within its bounds: none of the places chosen is without bytes, so all their chunks are read back
pub transmit-carries : (a : Association) (area out : List ℕ) → AssociationKept a → (transmitted a area out).number ≡ 0 → 0 < (transmitted a area out).length
    → chunks_in (take (transmitted a area out).length (transmitted_out a area out)) ≡ chosen_chunks area (packet_filled rail_sizes rail a.sending)
transmit-carries a area out k z h =
    transmit-reads a out area h
    ∙ some-all (λ (i : ℕ). chunk_bytes area (get_or (packet_filled rail_sizes rail a.sending).sending.places i no_place) i) (take (packet_filled rail_sizes rail a.sending).count (packet_filled rail_sizes rail a.sending).places) (transmit-full a area out k z)
