-- What the line has, as the circles have it: every TSN modulo n, every SSN modulo m, and nothing else changed.
use Rattle.std.specs.Prelude.{ℕ, ◌%◌, map}
use Rattle.numbers.specs.declared.circle.Ssn.{Ssn}
use Rattle.numbers.specs.KeepingLineLaws.{reduce_tsn, reduce_keeping}
use Rattle.holding.specs.declared.held.Chunk.{Chunk}
use Rattle.holding.specs.declared.held.Held.{Held}
use Rattle.holding.specs.declared.taking.Message.{Message}
use Rattle.holding.specs.declared.taking.Answer.{Answer}
use Rattle.holding.specs.declared.taking.Answer.TheVariants.{Taken, Nothing, Short}
use Rattle.delivery.specs.declared.receiving.Receiving.{Receiving}
use Rattle.delivery.specs.declared.acknowledging.Sack.{Sack}

-- an SSN, a chunk, a held chunk, a receiving record, what a take answers, a SACK
abbrev pub reduce_ssn : ℕ → Ssn → Ssn
reduce_ssn m s = record { 0 = s.0 % m }

abbrev pub reduce_chunk : ℕ → ℕ → Chunk → Chunk
reduce_chunk n m c = record {
  begin = c.begin;
  end = c.end;
  unordered = c.unordered;
  tsn = reduce_tsn n c.tsn;
  stream = c.stream;
  ssn = reduce_ssn m c.ssn;
  ppid = c.ppid;
}

abbrev pub reduce_held : ℕ → ℕ → Held → Held
reduce_held n m h = record {
  used = h.used;
  begin = h.begin;
  end = h.end;
  unordered = h.unordered;
  tsn = reduce_tsn n h.tsn;
  stream = h.stream;
  ssn = reduce_ssn m h.ssn;
  ppid = h.ppid;
  len = h.len;
}

abbrev pub reduce : ℕ → ℕ → Receiving → Receiving
reduce n m r = record {
  keeping = reduce_keeping n r.keeping;
  held = map (reduce_held n m) r.held;
  next = map (reduce_ssn m) r.next;
}

abbrev pub reduce_message : ℕ → Message → Message
reduce_message m x = record { length = x.length; stream = x.stream; unordered = x.unordered; ssn = reduce_ssn m x.ssn; ppid = x.ppid }

abbrev pub reduce_taken : ℕ → Answer → Answer
reduce_taken m (Taken x) = Taken (reduce_message m x)
reduce_taken m Nothing = Nothing
reduce_taken m (Short n) = Short n

abbrev pub reduce_sack : ℕ → Sack → Sack
reduce_sack n s = record {
  point = reduce_tsn n s.point;
  window = s.window;
  blocks = s.blocks;
  dups = map (reduce_tsn n) s.dups;
  listed = s.listed;
}
