-- What a call that may send leaves in its lent output.
use Rattle.std.specs.Prelude.{ℕ, ◌≤◌, ◌≡◌, List, [], ◌∷◌, map, take, drop}
use Rattle.octets.specs.Walk.{walk, item_at}
use Rattle.numbers.specs.Profile.{rail}
use Rattle.packets.specs.Checks.{form_number}
use Rattle.events.specs.declared.event.Event.{Event}
use Rattle.events.specs.declared.event.Event.TheVariants.{Packet, Associate, HandIn, Transmit, Take, Acknowledge, T1, T2, T3, Shutdown, Abort, ErrorStream, ErrorStale, Heartbeat, Sample, Unknown}

-- "sent packet at most 548"; the replies to a packet share "one of at most 1,472"
abbrev pub longest_sent : ℕ
longest_sent = 548

abbrev pub longest_reply : ℕ
longest_reply = rail.«longest-packet»

-- nothing is sent, and the output is as it was; or its first n bytes are a packet of at most `most` that passes our own checks 2, 3, 5 and 6,
-- and no byte behind them is touched
pub data Passing (most : ℕ) (out : List ℕ) (n : ℕ) (exit : List ℕ) : Type 0 where
  untouched : n ≡ 0 → exit ≡ out → Passing most out n exit
  passes : n ≤ most → form_number (take n exit) ≡ 0 → drop n exit ≡ drop n out → Passing most out n exit

-- the chunks of a packet, each with its padding, as the walk reads them
abbrev pub chunks_in : List ℕ → List (List ℕ)
chunks_in s = map (item_at s) (walk s 12)

-- those of a list that have bytes
abbrev pub some_of : List (List ℕ) → List (List ℕ)
some_of [] = []
some_of ([] ∷ cs) = some_of cs
some_of ((b ∷ bs) ∷ cs) = (b ∷ bs) ∷ some_of cs

-- what stands in the output after an event that tells the length n: a packet of ours, or all as it was; a take writes a message there
abbrev pub OutputAfter : Event → List ℕ → ℕ → List ℕ → Type 0
OutputAfter (Packet l e) out n exit = Passing longest_reply out n exit
OutputAfter (Associate tag tsn port streams) out n exit = Passing longest_sent out n exit
OutputAfter (HandIn stream unordered ppid) out n exit = exit ≡ out
OutputAfter Transmit out n exit = Passing longest_sent out n exit
OutputAfter Take out n exit = Unit
OutputAfter Acknowledge out n exit = Passing longest_sent out n exit
OutputAfter T1 out n exit = Passing longest_sent out n exit
OutputAfter T2 out n exit = Passing longest_sent out n exit
OutputAfter T3 out n exit = exit ≡ out
OutputAfter Shutdown out n exit = Passing longest_sent out n exit
OutputAfter (Abort why) out n exit = Passing longest_sent out n exit
OutputAfter (ErrorStream stream) out n exit = Passing longest_sent out n exit
OutputAfter (ErrorStale port tag late) out n exit = Passing longest_sent out n exit
OutputAfter (Heartbeat x y) out n exit = Passing longest_sent out n exit
OutputAfter (Sample ms) out n exit = exit ≡ out
OutputAfter Unknown out n exit = exit ≡ out
