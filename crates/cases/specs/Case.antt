-- What a case of 01 gives, and what the definitions that the code's promises cite answer to it.
use Rattle.std.specs.Prelude.{ℕ, ◌^◌, true, List, [], ◌∷◌}
use Rattle.scans.specs.Scan.{count}
use Rattle.numbers.specs.declared.circle.Distance.{Distance}
use Rattle.numbers.specs.Circle.{ssn0}
use Rattle.numbers.specs.Numbering.{Numbering, ring, circles, on, far}
use Rattle.numbers.specs.Profile.{rail}
use Rattle.numbers.specs.Blocks.{GapBlock}
use Rattle.numbers.specs.BlocksLaws.{block_list}
use Rattle.holding.specs.declared.held.Held.{Held}
use Rattle.holding.specs.Held.{as_held}
use Rattle.delivery.specs.declared.receiving.Receiving.{Receiving}
use Rattle.delivery.specs.Receiving.{fresh_receiving}
use Rattle.delivery.specs.Arrival.{arrived, verdict_number}
use Rattle.delivery.specs.ReceivingSack.{receiving_sack}
use Rattle.path.specs.declared.path.Path.{Path}
use Rattle.path.specs.Sizes.{rail_sizes}
use Rattle.path.specs.Path.{sampled_by, controlled, fresh_path, path_expired}

-- what is given
pub data CaseGiven : Type 0 where
  -- from one number to another, on the circle of so many bits
  distance : ℕ → ℕ → ℕ → CaseGiven
  -- TSNs that arrive one after the other, at a fresh record with this point
  arrivals : ℕ → List ℕ → CaseGiven
  -- round trips of so many milliseconds, from the start on
  samples : List ℕ → CaseGiven
  -- T3 expires at this cwnd
  expiry : ℕ → CaseGiven

-- what the last arrival was answered, the point and the gap blocks that a SACK then tells, and how many chunks are held
pub record CaseLeft : Type 0 where
  pub number : ℕ
  pub point : ℕ
  pub blocks : List GapBlock
  pub held : ℕ

-- what is answered
pub data CaseAnswer : Type 0 where
  apart : Distance → CaseAnswer
  left : CaseLeft → CaseAnswer
  -- the RTO after each
  waits : List ℕ → CaseAnswer
  -- ssthresh, then cwnd
  allows : ℕ → ℕ → CaseAnswer

-- a line of the table
pub record Case : Type 0 where
  pub given : CaseGiven
  pub expected : CaseAnswer

-- ---- what the definitions answer

-- the circle of TSNs
abbrev tsns : Numbering
tsns = ring (2 ^ 32)

-- the chunk of a TSN: an unordered message of one byte
abbrev chunk : ℕ → Held
chunk t = as_held (record { begin = true; end = true; unordered = true; tsn = record { 0 = t }; stream = record { 0 = 0 }; ssn = ssn0; ppid = 0 }) 1

-- "Fresh: point = peer's initial TSN minus 1"
abbrev fresh_at : ℕ → Receiving
fresh_at point = fresh_receiving tsns rail (record { 0 = on tsns point 1 })

-- what a record has, once the last was answered so
abbrev left_in : Receiving → ℕ → CaseLeft
left_in r number = record {
  number = number;
  point = (receiving_sack rail r).point.0;
  blocks = block_list (receiving_sack rail r).blocks;
  held = count (λ (h : Held). h.used) r.held;
}

-- each arrives at what the one before left
abbrev arrive_all : Receiving → ℕ → List ℕ → CaseLeft
arrive_all r number [] = left_in r number
arrive_all r number (t ∷ ts) = arrive_all (arrived circles rail r (chunk t) 1).receiving (verdict_number (arrived circles rail r (chunk t) 1).verdict) ts

-- the RTO after each sample
abbrev waits_of : Path → List ℕ → List ℕ
waits_of p [] = []
waits_of p (r ∷ rs) = (sampled_by rail_sizes p r).clock.rto ∷ waits_of (sampled_by rail_sizes p r) rs

-- a path of this cwnd
abbrev path_at : ℕ → Path
path_at cwnd = controlled (fresh_path rail_sizes) (record { cwnd = cwnd; ssthresh = rail_sizes.top; partial = 0 })

-- ssthresh and cwnd after T3
abbrev allows_of : Path → CaseAnswer
allows_of p = allows p.control.ssthresh p.control.cwnd

-- the definitions' answer
abbrev pub case_answered : CaseGiven → CaseAnswer
case_answered (distance bits a b) = apart (far (ring (2 ^ bits)) a b)
case_answered (arrivals point ts) = left (arrive_all (fresh_at point) 0 ts)
case_answered (samples rs) = waits (waits_of (fresh_path rail_sizes) rs)
case_answered (expiry cwnd) = allows_of (path_expired rail_sizes (path_at cwnd))
