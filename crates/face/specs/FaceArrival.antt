-- What the arrival of a packet tells and leaves: how many verdicts there are, and the length of the reply.
use Rattle.std.specs.Prelude.{ℕ, List, [], ◌∷◌}
use Rattle.steps.specs.declared.lent.Lent.{Lent}
use Rattle.steps.specs.declared.lent.Made.{Made}
use Rattle.landing.specs.Landing.{Landing, After}
use Rattle.kept.specs.declared.head.Kept.{Kept}
use Rattle.kept.specs.Kept.{packed}
use Rattle.face.specs.FaceLeft.{CallTold, call_told_of, CallLeft, left_with, served}

-- what is handed over number by number
abbrev pub lent_as : ℕ → ℕ → ℕ → ℕ → Lent
lent_as tag tsn streams options = record { tag = tag; tsn = record { 0 = tsn }; streams = streams; options = options }

abbrev pub made_as : ℕ → ℕ → ℕ → ℕ → ℕ → ℕ → ℕ → ℕ → ℕ → ℕ → Made
made_as ours theirs ins outs first second window tie tied agreed = record {
  my_tag = ours;
  peer_tag = theirs;
  streams_in = ins;
  streams_out = outs;
  my_tsn = record { 0 = first };
  peer_tsn = record { 0 = second };
  window = window;
  my_tie = tie;
  peer_tie = tied;
  options = agreed;
}

abbrev pub landed_told : Landing → CallTold
landed_told r = call_told_of r.number (packed r.head) (r.count ∷ r.length ∷ [])

pub record ArrivedLent : Type 0 where
  pub held : List ℕ
  pub next : List ℕ
  pub places : List ℕ
  pub next_out : List ℕ
  pub kept : List ℕ
  pub area : List ℕ
  pub verdicts : List ℕ
  pub out : List ℕ

abbrev pub arrived_lent : List ℕ → List ℕ → List ℕ → List ℕ → List ℕ → List ℕ → List ℕ → List ℕ → ArrivedLent
arrived_lent held next places next_out kept area verdicts out = record {
  held = held;
  next = next;
  places = places;
  next_out = next_out;
  kept = kept;
  area = area;
  verdicts = verdicts;
  out = out;
}

abbrev pub after_left : After → CallLeft ArrivedLent
after_left a = left_with (landed_told a.landed) (arrived_lent a.held a.next a.places a.next_out a.kept a.area a.verdicts a.out)

abbrev pub arrived_left : Kept → After → ArrivedLent → CallLeft ArrivedLent
arrived_left k a b = served k (after_left a) (0 ∷ 0 ∷ []) b
