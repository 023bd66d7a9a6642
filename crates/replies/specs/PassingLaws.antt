-- Every chunk that our writers leave is sound. HEARTBEAT, HEARTBEAT ACK, ABORT, SHUTDOWN ACK, ERROR, COOKIE ECHO, COOKIE ACK and
-- SHUTDOWN COMPLETE have no rule of their own; the others are DATA, INIT, INIT ACK, SACK and SHUTDOWN. Assumes nothing.
use Rattle.std.specs.Prelude.{ℕ, ◌+◌, ◌*◌, ◌≤◌, ◌≡◌, refl, Bool, true, List, [], ◌++◌, length}
use Rattle.std.proofs.Common.{arith, length-append}
use Rattle.numbers.specs.declared.circle.Tsn.{Tsn}
use Rattle.numbers.specs.Profile.{rail}
use Rattle.octets.specs.Bytes.{u16, be32}
use Rattle.octets.specs.BytesLaws.{u16-at}
use Rattle.octets.specs.Writing.{items}
use Rattle.octets.specs.WritingLaws.{length-items}
use Rattle.packets.specs.Shape.{tiled}
use Rattle.packets.specs.ShapeLaws.{tiled-none, tiled-last, tiled-more}
use Rattle.packets.specs.Body.{ChunkSound}
use Rattle.packets.specs.BodyLaws.{plain-sound, data-sound, init-sound, sack-sound, shutdown-chunk-sound}
use Rattle.chunks.specs.Frame.{parameter, framed, weight}
use Rattle.chunks.specs.DataChunk.{data_bytes, data_flags, data_fields}
use Rattle.chunks.specs.DataLaws.{data_is}
use Rattle.chunks.specs.SackChunk.{sack_bytes, sack_fields, block_at, dup_at}
use Rattle.chunks.specs.SackLaws.{sack-is}
use Rattle.chunks.specs.InitChunk.{init_fields}
use Rattle.chunks.specs.ShutdownChunk.{shutdown_bytes, shutdown_ack_bytes, complete_bytes}
use Rattle.chunks.specs.CookieChunk.{cookie_echo_bytes}
use Rattle.chunks.specs.CookieLaws.{echo-is}
use Rattle.chunks.specs.declared.data.Data.{Data}
use Rattle.chunks.specs.declared.sack.Sack.{Sack}
use Rattle.chunks.specs.declared.init.Init.{Init}
use Rattle.parameters.specs.Parameter.{COOKIE, params_of}
use Rattle.parameters.specs.Report.{gather_all, ROOM, init_ack_bytes}
use Rattle.parameters.specs.ReportLaws.{init-ack-is}
use Rattle.parameters.specs.FillingLaws.{Filling, gathered-fills}
use Rattle.parameters.specs.FillingLaws.Filling.{last, more}

module _ (d : Data) (p : List ℕ) (h : length p ≤ 512) (n : length p ≡ 0 → ⊥) where
  pub data-passes : ChunkSound (data_bytes rail d p)
  data-passes = rw (data_is d p h n) (data-sound (data_flags d) (data_fields d ++ p) (omega arith))

pub init-passes : (v : Init) → ChunkSound (framed 1 0 (init_fields v))
init-passes v = init-sound 1 0 (init_fields v) refl (omega arith) tiled-none

-- what fills a chunk tiles it
pub filling-tiles : {s : List ℕ} → Filling s → tiled s ≡ true
filling-tiles {s} (last h e) = tiled-last s h e
filling-tiles (more p b e h g f) = rw e (tiled-more p b h g (filling-tiles f))

module _ (v : Init) (c s : List ℕ) (h : length c ≤ 256) (n : length c ≡ 0 → ⊥) where
  pub init-ack-passes : ChunkSound (init_ack_bytes v c s)
  init-ack-passes =
      rw (init-ack-is v c s h n)
      (init-sound 2 0 (init_fields v ++ gather_all ROOM true (parameter COOKIE c) (params_of s)) refl (omega arith) (filling-tiles (gathered-fills c (params_of s))))

module _ (k : Sack) (h : k.blocks.count ≤ 64) (g : k.listed ≤ 16) where
  pub sack-long : length (sack_fields k) ≡ 12 + 4 * (k.blocks.count + k.listed)
  sack-long =
      omega (arith, length-append (items (block_at k.blocks.starts k.blocks.ends) 0 k.blocks.count) (items (dup_at k.dups) 0 k.listed), length-items (block_at k.blocks.starts k.blocks.ends) (λ j. refl) 0 k.blocks.count, length-items (dup_at k.dups) (λ j. refl) 0 k.listed)

  pub sack-passes : ChunkSound (sack_bytes rail k)
  sack-passes =
      let v : List ℕ = sack_fields k in
      let s : List ℕ = framed 3 0 v in
      let a : u16 s 12 ≡ k.blocks.count = u16-at s 12 k.blocks.count refl in
      let b : u16 s 14 ≡ k.listed = u16-at s 14 k.listed refl in
      rw (sack-is k h g) (sack-sound 0 v (omega (arith, sack-long)) (omega (arith, sack-long, a, b)))

pub shutdown-passes : (point : Tsn) → ChunkSound (shutdown_bytes point)
shutdown-passes point = shutdown-chunk-sound 0 (be32 point.0) (omega arith)

pub echo-passes : (c : List ℕ) → length c ≤ 256 → (length c ≡ 0 → ⊥) → ChunkSound (cookie_echo_bytes c)
echo-passes c h n = rw (echo-is c h n) (plain-sound 10 0 c refl)

-- and the rest: types 4, 5, 6, 8, 9, 11 and 14, whatever they carry
pub heartbeat-passes : (v : List ℕ) → ChunkSound (framed 4 0 v)
heartbeat-passes v = plain-sound 4 0 v refl

pub heartbeat-ack-passes : (v : List ℕ) → ChunkSound (framed 5 0 v)
heartbeat-ack-passes v = plain-sound 5 0 v refl

pub abort-passes : (f : ℕ) (v : List ℕ) → ChunkSound (framed 6 f v)
abort-passes f v = plain-sound 6 f v refl

pub shutdown-ack-passes : ChunkSound shutdown_ack_bytes
shutdown-ack-passes = plain-sound 8 0 [] refl

pub error-passes : (v : List ℕ) → ChunkSound (framed 9 0 v)
error-passes v = plain-sound 9 0 v refl

pub cookie-ack-passes : ChunkSound (framed 11 0 [])
cookie-ack-passes = plain-sound 11 0 [] refl

pub shutdown-complete-passes : (reflected : Bool) → ChunkSound (complete_bytes reflected)
shutdown-complete-passes reflected = plain-sound 14 (weight reflected 1) [] refl
