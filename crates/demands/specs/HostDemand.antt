-- DEMAND 3 FOR THE HOST'S OWN CALLS, at the rail's numbers: whatever it calls, from a fresh start up to the next one, it is told of what it receives just
-- what the host of the line receiver is told on the same chunks, brought back onto the circles. `HostDemandLaws` proves it of every stretch (`host-demand-3`).
use Rattle.std.specs.Prelude.{ℕ, suc, ◌+◌, ◌^◌, ◌<◌, ◌≤◌, ◌≡◌, [], ◌∷◌, map, length}
use Rattle.numbers.specs.Numbering.{line}
use Rattle.delivery.specs.Receiving.{low_of}
use Rattle.line.specs.Reduce.{reduce_chunk}
use Rattle.line.specs.Runs.{arrive}
use Rattle.line.specs.Demand.{Messages}
use Rattle.demands.specs.News.{numbered, given_in}
use Rattle.demands.specs.Heard.{asks}
use Rattle.demands.specs.Stretch.{Call, after_all, news_told_in, heard_in, window_told, Stretch, reduce_news, reduce_side, line_side, line_told, host_last, host_side, host_told}

pub record HostDemand3 (c : Stretch) : Type 0 where
  -- the number of each DATA, 7 among them, what each take gives with its bytes, and each SACK's values
  pub told : host_told c ≡ map (reduce_news (2 ^ 32) (2 ^ 16)) (line_told c)
  -- the receiving record, with what stands in the area
  pub left : host_side c ≡ reduce_side (2 ^ 32) (2 ^ 16) (line_side c)
  -- so the messages that the host got are different ones of the sender, each with its bytes, those of a stream in order without a gap
  pub messages : 65536 ≤ length c.area → Messages (2 ^ 16) (c.initial + 2 ^ 32) c.chunk c.payload (given_in (host_told c))
  -- and a call that brings the chunk next after the point, of 1 to 512 bytes, would now be told 0 for it, and a place less be free, unless what is held at or
  -- below the point fills the places
  pub progress : (j : ℕ) → j ≡ suc (line_side c).lent.receiving.keeping.point.0 → 1 ≤ length (c.payload j) → length (c.payload j) ≤ 512
      → low_of line (line_side c).lent.receiving < 128 → (x : Call) → heard_in (host_last c) (x ∷ []) ≡ asks (arrive (reduce_chunk (2 ^ 32) (2 ^ 16) (c.chunk j)) (c.payload j)) ∷ []
      → (news_told_in (host_last c) (x ∷ []) ≡ numbered 0 ∷ []) × (window_told (after_all (host_last c) (x ∷ [])) + 512 ≡ window_told (host_last c))
