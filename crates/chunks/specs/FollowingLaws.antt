-- What follows a chunk is not read with it: not its padding, and no other chunk. Assumes nothing.
use Rattle.std.specs.Prelude.{ℕ, ◌+◌, ◌*◌, ◌<◌, ◌≤◌, ◌≡◌, List, ◌++◌, length}
use Rattle.std.proofs.Common.{sym, ◌∙◌, arith}
use Rattle.std.proofs.Math.ListN.{get_or-append}
use Rattle.scans.specs.Upto.{smaller-left}
use Rattle.numbers.specs.Profile.{rail}
use Rattle.octets.specs.Bytes.{u8, u16, u32}
use Rattle.octets.specs.BytesLaws.{u16-append, u32-is}
use Rattle.chunks.specs.DataChunk.{data_of}
use Rattle.chunks.specs.InitChunk.{init_of}
use Rattle.chunks.specs.SackChunk.{sack_head_of, block_of, repeat_of, blocks_listed, blocks_in}
use Rattle.chunks.specs.ChunkRoundTripLaws.{table-alike}
use Rattle.chunks.specs.ShutdownChunk.{point_of}

module _ (c rest : List ℕ) where
  one : (at : ℕ) → at < length c → u8 (c ++ rest) at ≡ u8 c at
  one at h = get_or-append c rest 0 at h

  four : (at : ℕ) → at + 4 ≤ length c → u32 (c ++ rest) at ≡ u32 c at
  four at h =
      u32-is (c ++ rest) at
      ∙ (λ i. one at (omega arith) i * 16777216 + one (at + 1) (omega arith) i * 65536 + one (at + 2) (omega arith) i * 256 + one (at + 3) (omega arith) i)
      ∙ sym (u32-is c at)

  pub data-append : 16 ≤ length c → data_of (c ++ rest) ≡ data_of c
  unfolding data_of
  data-append h =
      rw (four 4 (omega arith), u16-append c rest 8 (omega arith), u16-append c rest 10 (omega arith), four 12 (omega arith), one 1 (omega arith))

  pub init-append : 20 ≤ length c → init_of (c ++ rest) ≡ init_of c
  unfolding init_of
  init-append h =
      rw (four 4 (omega arith), four 8 (omega arith), u16-append c rest 12 (omega arith), u16-append c rest 14 (omega arith), four 16 (omega arith))

  pub point-append : 8 ≤ length c → point_of (c ++ rest) ≡ point_of c
  unfolding point_of
  point-append h = rw (four 4 (omega arith))

  pub sack-append : 16 ≤ length c → sack_head_of (c ++ rest) ≡ sack_head_of c
  unfolding sack_head_of
  sack-append h = rw (four 4 (omega arith), four 8 (omega arith), u16-append c rest 12 (omega arith), u16-append c rest 14 (omega arith))

  pub block-append : (i : ℕ) → 20 + 4 * i ≤ length c → block_of (c ++ rest) i ≡ block_of c i
  unfolding block_of
  block-append i h = rw (u16-append c rest (16 + 4 * i) (omega arith), u16-append c rest (16 + 4 * i + 2) (omega arith))

  pub repeat-append : (i : ℕ) → 20 + 4 * u16 c 12 + 4 * i ≤ length c → repeat_of (c ++ rest) i ≡ repeat_of c i
  unfolding repeat_of
  repeat-append i h = rw (u16-append c rest 12 (omega arith), four (16 + 4 * u16 c 12 + 4 * i) (omega arith))

  listed-append : 16 ≤ length c → blocks_listed rail (c ++ rest) ≡ blocks_listed rail c
  unfolding blocks_listed
  listed-append h = rw (u16-append c rest 12 (omega arith))

  listed-most : blocks_listed rail c ≤ u16 c 12
  unfolding blocks_listed
  listed-most = smaller-left (u16 c 12) 64

  pub blocks-append : 16 + 4 * u16 c 12 ≤ length c → blocks_in rail (c ++ rest) ≡ blocks_in rail c
  unfolding blocks_in
  blocks-append h =
      rw (
        listed-append (omega arith),
        table-alike (λ (i : ℕ). u16 (c ++ rest) (16 + 4 * i)) (λ (i : ℕ). u16 c (16 + 4 * i)) 0 (blocks_listed rail c) (λ i l. u16-append c rest (16 + 4 * i) (omega (arith, listed-most))),
        table-alike (λ (i : ℕ). u16 (c ++ rest) (18 + 4 * i)) (λ (i : ℕ). u16 c (18 + 4 * i)) 0 (blocks_listed rail c) (λ i l. u16-append c rest (18 + 4 * i) (omega (arith, listed-most))),
      )
