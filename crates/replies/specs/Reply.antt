-- What a reply is made of: chunks that may share one packet, or one that stands alone.
use Rattle.std.specs.Prelude.{ℕ, ◌≡◌, Bool, false, List}
use Rattle.scans.specs.Each.{All}
use Rattle.octets.specs.Bytes.{u8}
use Rattle.octets.specs.Walk.{joined}
use Rattle.chunks.specs.Types.{init_type}
use Rattle.packets.specs.Shape.{alone}
use Rattle.packets.specs.Body.{ChunkSound, Together}
use Rattle.steps.specs.declared.verdict.Owed.{Owed}
use Rattle.steps.specs.declared.verdict.Owed.TheVariants.{To}

-- a sound chunk that need not stand alone
pub record Shareable (c : List ℕ) : Type 0 where
  pub sound : ChunkSound c
  pub beside : alone c ≡ false

-- such chunks one behind the other, or none
pub record Shared (bs : List ℕ) : Type 0 where
  pub chunks : List (List ℕ)
  pub each : All Shareable chunks
  pub is : bs ≡ joined chunks

-- the reply to the chunk s: only an INIT has one that stands alone, and it owes nothing beside it but its tag
pub data ReplyFits (s : List ℕ) (o : Owed) (bs : List ℕ) : Type 0 where
  several : Shared bs → ReplyFits s o bs
  single : (tag : ℕ) → u8 s 0 ≡ init_type → o ≡ To tag → ChunkSound bs → ReplyFits s o bs

-- the replies to a packet: a chunk that stands alone is the only one, and no SHUTDOWN is due behind it
pub data RepliesStand (bs : List ℕ) (due : Bool) : Type 0 where
  together : Shared bs → RepliesStand bs due
  apart : ChunkSound bs → due ≡ false → RepliesStand bs due

-- bytes of sound chunks that may stand in one packet
pub record RepliesPacked (bs : List ℕ) : Type 0 where
  pub chunks : List (List ℕ)
  pub sound : All ChunkSound chunks
  pub together : Together chunks
  pub is : bs ≡ joined chunks
