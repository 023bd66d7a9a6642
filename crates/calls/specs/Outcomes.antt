-- What a call of the host may write: nothing, or one chunk behind a header; `transmit` those of the places that it chose.
use Rattle.std.specs.Prelude.{ℕ, ◌+◌, ◌≤◌, ◌≡◌, List, map, length, take, get_or}
use Rattle.scans.specs.Each.{All}
use Rattle.numbers.specs.declared.circle.Tsn.{Tsn}
use Rattle.numbers.specs.Profile.{rail, gap_blocks, chunk_room}
use Rattle.octets.specs.Bytes.{laid}
use Rattle.octets.specs.Walk.{joined}
use Rattle.packets.specs.declared.header.Header.{Header}
use Rattle.packets.specs.Header.{seal_count, seal_bytes}
use Rattle.chunks.specs.declared.cause.Cause.{Cause}
use Rattle.chunks.specs.declared.init.Init.{Init}
use Rattle.chunks.specs.declared.sack.Sack.{Sack}
use Rattle.chunks.specs.Types.{init_type, abort_type, error_type}
use Rattle.chunks.specs.Cause.{caused, cause_code, information}
use Rattle.chunks.specs.CookieChunk.{longest_cookie, cookie_echo_bytes}
use Rattle.chunks.specs.Frame.{framed}
use Rattle.chunks.specs.HeartbeatChunk.{heartbeat_bytes}
use Rattle.chunks.specs.InitChunk.{init_fields}
use Rattle.chunks.specs.SackChunk.{sack_bytes}
use Rattle.chunks.specs.ShutdownChunk.{shutdown_bytes, shutdown_ack_bytes}
use Rattle.sending.specs.declared.choosing.Chosen.{Chosen}
use Rattle.sending.specs.Sending.{no_place}
use Rattle.sending.specs.SendingSizeLaws.{size_at}
use Rattle.association.specs.declared.ends.Association.{Association}
use Rattle.association.specs.Bounds.{least_out}
use Rattle.calls.specs.Transmit.{chunk_bytes}

-- what the types of a record say of two of its arrays
pub record Arrays (a : Association) : Type 0 where
  pub come : length a.receiving.keeping.come ≡ rail.places
  pub cookie : length a.cookie.bytes ≡ rail.«longest-cookie»

-- bs stands in an output behind a header, as the header's writer leaves it
pub record Stands (bs out : List ℕ) (n : ℕ) (exit : List ℕ) : Type 0 where
  pub header : Header
  pub count : n ≡ seal_count (12 + length bs) (laid out 12 bs)
  pub bytes : exit ≡ seal_bytes header (12 + length bs) (laid out 12 bs)

-- the one chunk that a call sends
pub data Carries (bs : List ℕ) : Type 0 where
  init : (v : Init) → bs ≡ framed init_type 0 (init_fields v) → Carries bs
  cookie-echo : (c : List ℕ) → length c ≤ longest_cookie → (length c ≡ 0 → ⊥) → bs ≡ cookie_echo_bytes c → Carries bs
  sack : (k : Sack) → k.blocks.count ≤ gap_blocks rail → k.listed ≤ rail.listed → bs ≡ sack_bytes rail k → Carries bs
  shutdown : (point : Tsn) → bs ≡ shutdown_bytes point → Carries bs
  shutdown-ack : bs ≡ shutdown_ack_bytes → Carries bs
  heartbeat : (value : List ℕ) → length value ≡ 8 → bs ≡ heartbeat_bytes value → Carries bs

-- the same of ABORT and ERROR, which have a cause
pub data Tells (bs : List ℕ) : Type 0 where
  abort : (c : Cause) → bs ≡ framed abort_type 0 (caused (cause_code c) (information c)) → Tells bs
  error : (c : Cause) → bs ≡ framed error_type 0 (caused (cause_code c) (information c)) → Tells bs

-- nothing is sent and the output stays, or a chunk that is C stands in it, if it fits
pub data CallSends (C : List ℕ → Type 0) (out : List ℕ) (n : ℕ) (exit : List ℕ) : Type 0 where
  silent : n ≡ 0 → exit ≡ out → CallSends C out n exit
  sends : (bs : List ℕ) → C bs → least_out ≤ length out → (length bs ≤ chunk_room rail → Stands bs out n exit) → CallSends C out n exit

-- the chunks of the places chosen, in the order of choice
abbrev pub chosen_chunks : List ℕ → Chosen → List (List ℕ)
chosen_chunks area f = map (λ (i : ℕ). chunk_bytes area (get_or f.sending.places i no_place) i) (take f.count f.places)

-- `transmit`: nothing, or just those chunks, one behind the other
pub data Bundling (area : List ℕ) (f : Chosen) (out : List ℕ) (n : ℕ) (exit : List ℕ) : Type 0 where
  nothing : n ≡ 0 → exit ≡ out → Bundling area f out n exit
  bundle : least_out ≤ length out → All (λ (i : ℕ). size_at f.sending.places i ≤ 536) (take f.count f.places) → (length (joined (chosen_chunks area f)) ≡ 0 → ⊥) → length (joined (chosen_chunks area f)) ≤ 536 → Stands (joined (chosen_chunks area f)) out n exit
      → Bundling area f out n exit
