-- A packet with one chunk: the header, the chunk, and the checksum of both.
use Rattle.std.specs.Prelude.{ℕ, ◌+◌, ◌≡◌, List, drop}
use Rattle.octets.specs.Writing.{wrote_count, bytes_wrote_at}
use Rattle.packets.specs.declared.header.Header.{Header}
use Rattle.packets.specs.Header.{seal_count, seal_bytes}
use Rattle.association.specs.declared.ends.Ends.{Ends}
use Rattle.association.specs.Heads.{head_to}

-- to the peer's port, with a tag
abbrev pub head_to_peer : Ends → ℕ → Header
head_to_peer e tag = head_to e e.peer_port tag

-- "Other packets carry" the tag that the peer chose
abbrev pub to_peer : Ends → Header
to_peer e = head_to_peer e e.peer_tag

-- the bytes that a packet with the chunk bs takes, and what then stands in the lent output
unfoldable pub sent_length : List ℕ → List ℕ → ℕ
sent_length bs out = seal_count (12 + wrote_count (drop 12 out) bs) (bytes_wrote_at out 12 bs)

unfoldable pub sent_one : Header → List ℕ → List ℕ → List ℕ
sent_one h bs out = seal_bytes h (12 + wrote_count (drop 12 out) bs) (bytes_wrote_at out 12 bs)

-- the promise of every function that sends one chunk
pub record Sent (h : Header) (bs out : List ℕ) (r : ℕ) (exit : List ℕ) : Type 0 where
  pub count : r ≡ sent_length bs out
  pub bytes : exit ≡ sent_one h bs out
