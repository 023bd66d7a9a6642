-- The round trips of the thirteen kinds, both ways, and "the reader ignores padding": what is said. Each is shown in the file of laws that is named with it.
use Rattle.std.specs.Prelude.{ℕ, zero, suc, ◌+◌, ◌-◌, ◌<◌, ◌≤◌, ◌≡◌, Bool, true, List, [], ◌∷◌, ◌++◌, map, eqb, length, take, drop, get_or, replicate}
use Rattle.scans.specs.Each.{All}
use Rattle.numbers.specs.Profile.{rail, gap_blocks}
use Rattle.numbers.specs.Blocks.{padded}
use Rattle.numbers.specs.declared.circle.Tsn.{Tsn}
use Rattle.octets.specs.Bytes.{u8, u16, up4, zeros}
use Rattle.octets.specs.Walk.{walk, item_at, joined, item_places}
use Rattle.chunks.specs.Types.{init_type, heartbeat_ack_type, abort_type, error_type, cookie_ack_type, init_ack_type, data_type, sack_type, shutdown_type}
use Rattle.chunks.specs.Frame.{framed, parameter, chunk_end, part_from, bytes_in, flagged, weight}
use Rattle.chunks.specs.BackLaws.{Back}
use Rattle.chunks.specs.Kind.{kind_of}
use Rattle.chunks.specs.DataChunk.{data_of, data_bytes}
use Rattle.chunks.specs.InitChunk.{init_of, init_fields}
use Rattle.chunks.specs.SackChunk.{sack_head_of, block_of, repeat_of, tabled, blocks_in, sack_bytes}
use Rattle.chunks.specs.HeartbeatChunk.{heartbeat_bytes}
use Rattle.chunks.specs.ShutdownChunk.{point_of, shutdown_bytes, shutdown_ack_bytes, complete_bytes}
use Rattle.chunks.specs.CookieChunk.{cookie_echo_bytes}
use Rattle.chunks.specs.Cause.{caused}
use Rattle.chunks.specs.AgainLaws.{Octet}
use Rattle.chunks.specs.declared.data.Data.{Data}
use Rattle.chunks.specs.declared.init.Init.{Init}
use Rattle.chunks.specs.declared.sack.Sack.{Sack}
use Rattle.chunks.specs.declared.kind.Kind.{Kind}
use Rattle.chunks.specs.declared.kind.Kind.TheVariants as kinds
use Rattle.parameters.specs.Parameter.{COOKIE, params_of, value_of}
use Rattle.parameters.specs.Report.{gather_all, ROOM, init_ack_bytes}
use Rattle.parameters.specs.Stale.{stale_in}
use Rattle.parameters.specs.ParameterPaddingLaws.{InitAlike}
use Rattle.packets.specs.Header.{header_of, seal_bytes}
use Rattle.packets.specs.Shape.{shape_number}
use Rattle.packets.specs.Checks.{form_number}
use Rattle.packets.specs.Body.{ChunkSound, Together}
use Rattle.packets.specs.declared.header.Header.{Header}
use Rattle.packets.specs.ShapeLaws.{Accepted}
use Rattle.packets.specs.BodyLaws.{is_initial}

-- ---- what is written reads back (WrittenLaws: `written_back`)

-- the kind of a chunk, and all that follows its head: information, cookie, causes
abbrev pub kind_in : List ℕ → Kind
kind_in s = kind_of (u8 s 0)

abbrev pub value_in : List ℕ → List ℕ
value_in s = bytes_in s (part_from 4 s)

-- the T bit
abbrev pub reflected_in : List ℕ → Bool
reflected_in s = flagged s 1

-- the bytes bs, whatever follows them, are a chunk of kind k of which the reader gives v
pub record Reads {A : Type 0} (k : Kind) (read : List ℕ → A) (v : A) (bs : List ℕ) : Type 0 where
  pub kind : Back kind_in k bs
  pub value : Back read v bs

-- what the writer of each kind leaves: its kind, and its values. ABORT and ERROR hold any causes, HEARTBEAT ACK any information
pub record WrittenBack : Type 0 where
  pub of-data : (d : Data) (p : List ℕ) → length p ≤ rail.payload → (length p ≡ 0 → ⊥)
      → Reads kinds.Data data_of d (data_bytes rail d p) × Back (λ (s : List ℕ). bytes_in s (part_from 16 s)) p (data_bytes rail d p)
  pub of-init : (v : Init) → Reads kinds.Init init_of v (framed init_type 0 (init_fields v)) × Back params_of [] (framed init_type 0 (init_fields v))
  -- the cookie c, and the reports of the unknown parameters of the INIT s
  pub of-init-ack : (v : Init) (c s : List ℕ) → length c ≤ rail.«longest-cookie» → (length c ≡ 0 → ⊥)
      → Reads kinds.InitAck init_of v (init_ack_bytes v c s)
      × Back params_of (gather_all ROOM true (parameter COOKIE c) (params_of s)) (init_ack_bytes v c s)
      × Back (λ (x : List ℕ). bytes_in x (value_of COOKIE 4 x)) c (init_ack_bytes v c s)
  pub of-sack : (k : Sack) → k.blocks.count ≤ gap_blocks rail → k.listed ≤ rail.listed
      → Reads kinds.Sack sack_head_of (record { point = k.point; window = k.window; blocks = k.blocks.count; repeats = k.listed }) (sack_bytes rail k)
      × Back (blocks_in rail)
      (record {
        count = k.blocks.count;
        starts = padded (gap_blocks rail) (tabled (λ (i : ℕ). get_or k.blocks.starts i 0) 0 k.blocks.count);
        ends = padded (gap_blocks rail) (tabled (λ (i : ℕ). get_or k.blocks.ends i 0) 0 k.blocks.count);
      })
      (sack_bytes rail k)
      × ((i : ℕ) → i < k.listed → Back (λ (s : List ℕ). repeat_of s i) (get_or k.dups i (record { 0 = 0 })) (sack_bytes rail k))
  -- its one parameter, and the information in it
  pub of-heartbeat : (v : List ℕ) → Reads kinds.Heartbeat value_in (parameter 1 v) (heartbeat_bytes v) × Back (λ (s : List ℕ). bytes_in s (part_from 8 s)) v (heartbeat_bytes v)
  pub of-heartbeat-ack : (v : List ℕ) → Reads kinds.HeartbeatAck value_in v (framed heartbeat_ack_type 0 v)
  pub of-abort : (t : Bool) (v : List ℕ) → Reads kinds.Abort value_in v (framed abort_type (weight t 1) v) × Back reflected_in t (framed abort_type (weight t 1) v)
  pub of-shutdown : (t : Tsn) → Reads kinds.Shutdown point_of t (shutdown_bytes t)
  pub of-shutdown-ack : Reads kinds.ShutdownAck value_in [] shutdown_ack_bytes
  pub of-error : (v : List ℕ) → Reads kinds.Error value_in v (framed error_type 0 v)
  -- the one cause of an ABORT or ERROR that a writer of causes leaves: its code, its length, its information
  pub of-cause : (k f c : ℕ) (info : List ℕ)
      → Back (λ (s : List ℕ). u16 s 4) c (framed k f (caused c info))
      × Back (λ (s : List ℕ). u16 s 6) (4 + length info) (framed k f (caused c info))
      × Back (λ (s : List ℕ). bytes_in s (part_from 8 s)) info (framed k f (caused c info))
  pub of-stale : (c : ℕ) (info : List ℕ) → Reads kinds.Error stale_in (eqb c 3) (framed error_type 0 (caused c info))
  pub of-cookie-echo : (c : List ℕ) → length c ≤ rail.«longest-cookie» → (length c ≡ 0 → ⊥) → Reads kinds.CookieEcho value_in c (cookie_echo_bytes c)
  pub of-cookie-ack : Reads kinds.CookieAck value_in [] (framed cookie_ack_type 0 [])
  pub of-shutdown-complete : (t : Bool) → Reads kinds.ShutdownComplete reflected_in t (complete_bytes t)

-- ---- what is accepted, written again, is the same bytes where no ignored bit stands (AgainLaws: `accepted-again`)

-- s begins with a chunk of type k and flags under f that check 5 lets pass, of octets, with its padding, all zeros
pub record Clean (k f : ℕ) (s : List ℕ) : Type 0 where
  pub octets : All Octet s
  pub type : u8 s 0 ≡ k
  pub flags : u8 s 1 < f
  pub accepted : Accepted s
  pub room : up4 (u16 s 2) ≤ length s
  pub padding : zeros (u16 s 2) ≡ take (up4 (u16 s 2) - u16 s 2) (drop (u16 s 2) s)

-- so is all that a writer leaves, where it passes check 5 (crate replies) and its bytes are octets (AgainLaws: `written-clean`)
abbrev pub WrittenClean : Type 0
WrittenClean = (k f g : ℕ) (v : List ℕ) → ChunkSound (framed k f v) → All Octet (framed k f v) → f < g → Clean k g (framed k f v)

-- the chunk with its padding
abbrev pub chunk_in : List ℕ → List ℕ
chunk_in s = take (up4 (u16 s 2)) s

-- the n duplicates of a SACK from the one at i on, and the SACK that is read: 16 duplicates at most, with zeros behind
abbrev pub repeats_from : List ℕ → ℕ → ℕ → List Tsn
repeats_from s i zero = []
repeats_from s i (suc n) = repeat_of s i ∷ repeats_from s (i + 1) n

abbrev pub sack_in : List ℕ → Sack
sack_in s = record {
  point = (sack_head_of s).point;
  window = (sack_head_of s).window;
  blocks = blocks_in rail s;
  dups = repeats_from s 0 (sack_head_of s).repeats ++ replicate (rail.listed - (sack_head_of s).repeats) (record { 0 = 0 });
  listed = (sack_head_of s).repeats;
}

-- with what each reader reads its writer writes the same bytes. INIT and INIT ACK go by `write_fields`, the writer of any parameters. A
-- premise on the length stands where the writer writes no other (DATA, COOKIE ECHO), or where the reader would ignore the bytes behind
pub record AcceptedAgain : Type 0 where
  pub of-data : (s : List ℕ) → Clean 0 8 s → 16 < u16 s 2 → u16 s 2 ≤ 528 → data_bytes rail (data_of s) (bytes_in s (part_from 16 s)) ≡ chunk_in s
  pub of-init : (s : List ℕ) → Clean 1 1 s → framed init_type 0 (init_fields (init_of s) ++ params_of s) ≡ chunk_in s
  pub of-init-bare : (s : List ℕ) → Clean 1 1 s → u16 s 2 ≡ 20 → framed init_type 0 (init_fields (init_of s)) ≡ chunk_in s
  pub of-init-ack : (s : List ℕ) → Clean 2 1 s → framed init_ack_type 0 (init_fields (init_of s) ++ params_of s) ≡ chunk_in s
  -- one parameter, a state cookie that fills it: as the answer to an INIT x with no parameters
  pub of-init-ack-bare : (s x : List ℕ) → Clean 2 1 s → params_of x ≡ [] → 24 < u16 s 2 → u16 s 2 ≤ 280 → u16 s 20 ≡ COOKIE → u16 s 22 ≡ u16 s 2 - 20
      → init_ack_bytes (init_of s) (bytes_in s (value_of COOKIE 4 s)) x ≡ chunk_in s
  -- all that it counts is listed
  pub of-sack : (s : List ℕ) → Clean 3 1 s → (blocks_in rail s).count ≡ (sack_head_of s).blocks → (sack_head_of s).blocks ≤ gap_blocks rail → (sack_head_of s).repeats ≤ rail.listed → sack_bytes rail (sack_in s) ≡ chunk_in s
  -- one parameter 1 that fills it
  pub of-heartbeat : (s : List ℕ) → Clean 4 1 s → 8 ≤ u16 s 2 → u16 s 4 ≡ 1 → u16 s 6 ≡ u16 s 2 - 4 → heartbeat_bytes (bytes_in s (part_from 8 s)) ≡ chunk_in s
  pub of-heartbeat-ack : (s : List ℕ) → Clean 5 1 s → framed heartbeat_ack_type 0 (value_in s) ≡ chunk_in s
  pub of-abort : (s : List ℕ) → Clean 6 2 s → framed abort_type (weight (reflected_in s) 1) (value_in s) ≡ chunk_in s
  pub of-shutdown : (s : List ℕ) → Clean 7 1 s → u16 s 2 ≡ 8 → shutdown_bytes (point_of s) ≡ chunk_in s
  pub of-shutdown-ack : (s : List ℕ) → Clean 8 1 s → u16 s 2 ≡ 4 → shutdown_ack_bytes ≡ chunk_in s
  pub of-error : (s : List ℕ) → Clean 9 1 s → framed error_type 0 (value_in s) ≡ chunk_in s
  pub of-cookie-echo : (s : List ℕ) → Clean 10 1 s → 4 < u16 s 2 → u16 s 2 ≤ 260 → cookie_echo_bytes (value_in s) ≡ chunk_in s
  pub of-cookie-ack : (s : List ℕ) → Clean 11 1 s → u16 s 2 ≡ 4 → framed cookie_ack_type 0 [] ≡ chunk_in s
  pub of-shutdown-complete : (s : List ℕ) → Clean 14 2 s → u16 s 2 ≡ 4 → complete_bytes (reflected_in s) ≡ chunk_in s

-- ---- "the reader ignores padding" (PaddingLaws: `padding-ignored`, `packet-padding`)

-- a chunk's own bytes: neither its padding nor what follows is among them (the padding between two parameters of a chunk is)
abbrev pub own : List ℕ → List ℕ
own s = take (u16 s 2) s

-- all that a step reads of the chunks s and t is the same: the kind, each flag, where it ends and its own bytes (cause 6 holds them), each part
-- (payload, information, cookie, causes); and by its type the fields of DATA, the fields and parameters of INIT and INIT ACK, SACK, SHUTDOWN
pub record ReadAlike (s t : List ℕ) : Type 0 where
  pub kind : kind_in t ≡ kind_in s
  pub flags : (w : ℕ) → flagged t w ≡ flagged s w
  pub ends : chunk_end t ≡ chunk_end s
  pub bytes : take (chunk_end t) t ≡ take (chunk_end s) s
  pub part : (k : ℕ) → k ≤ u16 s 2 → (part_from k t ≡ part_from k s) × (bytes_in t (part_from k t) ≡ bytes_in s (part_from k s))
  pub stale : stale_in t ≡ stale_in s
  pub of-data : u8 s 0 ≡ data_type → data_of t ≡ data_of s
  pub of-init : is_initial (u8 s 0) ≡ true → InitAlike s t
  pub of-sack : u8 s 0 ≡ sack_type → (sack_head_of t ≡ sack_head_of s) × (blocks_in rail t ≡ blocks_in rail s)
  pub of-lists : u8 s 0 ≡ sack_type → (i : ℕ) → (i < u16 s 12 → block_of t i ≡ block_of s i) × (i < u16 s 14 → repeat_of t i ≡ repeat_of s i)
  pub of-shutdown : u8 s 0 ≡ shutdown_type → point_of t ≡ point_of s

-- an accepted chunk, and one with the same bytes of its own, whatever the padding of each
abbrev pub PaddingIgnored : Type 0
PaddingIgnored = (s t : List ℕ) → Accepted s → own t ≡ own s → Accepted t × ReadAlike s t

-- packets of one length whose chunks are the same but for padding
pub record ButPadding (s t : List ℕ) : Type 0 where
  pub long : length t ≡ length s
  pub chunks : All (λ (k : ℕ). own (drop k t) ≡ own (drop k s)) (walk s 12)

-- where checks 5 and 6 let s pass, they let t pass; its chunks begin at the same places, and all that is read of each is the same
pub record PacketAlike (s t : List ℕ) : Type 0 where
  pub shape : shape_number t ≡ 0
  pub places : walk t 12 ≡ walk s 12
  pub chunks : All (λ (k : ℕ). ReadAlike (drop k s) (drop k t)) (walk s 12)

abbrev pub PacketPadding : Type 0
PacketPadding = (s t : List ℕ) → shape_number s ≡ 0 → ButPadding s t → PacketAlike s t

-- ---- a packet that is written reads back (PacketLaws: `packet-back`)

-- where chunk c stands behind `before`, and any reader gives v of it, it gives v of the packet there
abbrev pub ReadThere : List (List ℕ) → List ℕ → Type 1
ReadThere cs s =
    (A : Type 0) (before after : List (List ℕ)) (c : List ℕ) → cs ≡ before ++ c ∷ after → (read : List ℕ → A) (v : A) → Back read v c
    → read (drop (12 + length (joined before)) s) ≡ v

-- of the packet s: it passes our checks 2, 3, 5 and 6, its header is h, its chunks are cs, and each reads as it does by itself
pub record PacketRead (h : Header) (cs : List (List ℕ)) (s : List ℕ) : Type 1 where
  pub passes : form_number s ≡ 0
  pub header : header_of s ≡ h
  pub places : walk s 12 ≡ item_places 12 cs
  pub chunks : map (item_at s) (walk s 12) ≡ cs
  pub values : ReadThere cs s

-- the n bytes that the writer of a header leaves, where sound chunks cs that may share a packet stand in out from 12 on
abbrev pub PacketBack : Type 1
PacketBack = (h : Header) (n : ℕ) (out : List ℕ) (cs : List (List ℕ)) → All ChunkSound cs → Together cs → rail.«shortest-packet» ≤ n → n ≤ rail.«longest-packet» → n ≤ length out → drop 12 (take n out) ≡ joined cs
    → PacketRead h cs (take n (seal_bytes h n out))
