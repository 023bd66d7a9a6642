-- What is read of a DATA or a SACK, written again, is the same bytes where no ignored bits stand. Assumes nothing.
use Prim.Native.Nat.{ℕ, zero, suc, ◌+◌, ◌-◌, ◌*◌, ◌/◌, ◌%◌, ◌<◌, ◌≤◌}
use Rattle.std.specs.Prelude.{◌≡◌, eqb, replicate}
use Rattle.std.proofs.Math.Path.{refl, sym, ap}
use Rattle.std.proofs.Common.{◌∙◌, drop-drop, take-add}
use mathlib.Core.List.{List, [], ◌∷◌, ◌++◌, append-nil}
use native.Mathlib.Omega.{arith}
use Rattle.std.proofs.Math.ListN.{length, take, drop, get_or, length-append, length-drop}
use Rattle.std.proofs.Math.Seq.{length-take-le}
use Rattle.scans.specs.Each.{All, all-at}
use Rattle.numbers.specs.Profile.{rail}
use Rattle.numbers.specs.Blocks.{padded}
use Rattle.numbers.specs.declared.circle.Tsn.{Tsn}
use Rattle.numbers.specs.declared.keeping.Blocks.{Blocks}
use Rattle.octets.specs.Bytes.{u8, u16, u32, be16, be32, up4, zeros}
use Rattle.octets.specs.BytesLaws.{u16-again, u32-again, zeros-none}
use Rattle.octets.specs.Writing.{items}
use Rattle.octets.specs.WritingLaws.{length-items}
use Rattle.chunks.specs.Frame.{part_from, bytes_in, weight}
use Rattle.chunks.specs.BackLaws.{from_is}
use Rattle.chunks.specs.DataChunk.{data_of, data_bytes, data_fields, data_flags}
use Rattle.chunks.specs.DataLaws.{data_is}
use Rattle.chunks.specs.SackChunk.{sack_head_of, repeat_of, tabled, blocks_listed, blocks_in, block_at, dup_at, sack_fields, sack_bytes}
use Rattle.chunks.specs.SackLaws.{sack-is}
use Rattle.chunks.specs.declared.data.Data.{Data}
use Rattle.chunks.specs.declared.sack.Sack.{Sack}
use Rattle.chunks.specs.declared.sack.SackHead.{SackHead}

-- a byte
abbrev pub Octet : ℕ → Type 0
Octet x = x < 256

-- ---- a number that was read, written at its place

module _ (s : List ℕ) (w : All Octet s) (at : ℕ) where
  small : (i : ℕ) → get_or s i 0 < 256
  small i = all-at Octet s i 0 (omega arith) w

  pub two-again : at + 2 ≤ length s → be16 (u16 s at) ≡ take 2 (drop at s)
  two-again h = u16-again s small at h

  pub four-again : at + 4 ≤ length s → be32 (u32 s at) ≡ take 4 (drop at s)
  four-again h = u32-again s small at h

-- ---- pieces of s one behind the other

pub join : (s : List ℕ) (i b j : ℕ) {x y : List ℕ} → i + b ≡ j → x ≡ take i s → y ≡ take b (drop i s) → x ++ y ≡ take j s
join s i b j e p q = (λ k. p k ++ q k) ∙ sym (take-add i b s) ∙ ap (λ (n : ℕ). take n s) e

first_two : (s : List ℕ) → 2 ≤ length s → u8 s 0 ∷ u8 s 1 ∷ [] ≡ take 2 s
first_two [] h = absurd (omega arith)
first_two (a ∷ []) h = absurd (omega arith)
first_two (a ∷ b ∷ l) h = refl

-- ---- DATA

flags-again : (f : ℕ) → f < 8 → weight (eqb (f / 4 % 2) 1) 4 + weight (eqb (f / 2 % 2) 1) 2 + weight (eqb (f / 1 % 2) 1) 1 ≡ f
flags-again zero h = refl
flags-again (suc zero) h = refl
flags-again (suc (suc zero)) h = refl
flags-again (suc (suc (suc zero))) h = refl
flags-again (suc (suc (suc (suc zero)))) h = refl
flags-again (suc (suc (suc (suc (suc zero))))) h = refl
flags-again (suc (suc (suc (suc (suc (suc zero)))))) h = refl
flags-again (suc (suc (suc (suc (suc (suc (suc zero))))))) h = refl
flags-again (suc (suc (suc (suc (suc (suc (suc (suc f)))))))) h = absurd (omega arith)

-- no reserved bit and no I bit stands among the flags, and the padding is zero
module _ (s : List ℕ) (w : All Octet s) (kind : u8 s 0 ≡ 0) (flags : u8 s 1 < 8) (more : 16 < u16 s 2) (few : u16 s 2 ≤ 528)
    (within : up4 (u16 s 2) ≤ length s) (padding : zeros (u16 s 2) ≡ take (up4 (u16 s 2) - u16 s 2) (drop (u16 s 2) s)) where
  payload : List ℕ
  payload = take (u16 s 2 - 16) (drop 16 s)

  payload-is : bytes_in s (part_from 16 s) ≡ payload
  unfolding payload
  payload-is = ap (bytes_in s) (from_is s (u16 s 2) refl (omega arith) 16 (omega arith))

  payload-long : length payload ≡ u16 s 2 - 16
  unfolding payload
  payload-long = length-take-le (u16 s 2 - 16) (drop 16 s) (omega (arith, length-drop 16 s))

  head-is : 0 ∷ data_flags (data_of s) ∷ [] ≡ take 2 s
  unfolding data_of
  head-is = (λ i. sym kind i ∷ flags-again (u8 s 1) flags i ∷ []) ∙ first_two s (omega arith)

  pub data-again : data_bytes rail (data_of s) (bytes_in s (part_from 16 s)) ≡ take (up4 (u16 s 2)) s
  unfolding data_of payload
  data-again =
      let d : Data = data_of s in
      let n : ℕ = u16 s 2 in
      let m : 4 + length (data_fields d ++ payload) ≡ n = omega (arith, payload-long) in
      ap (data_bytes rail d) payload-is
      ∙ data_is d payload (omega (arith, payload-long)) (λ e. omega (arith, e, payload-long))
      ∙ (rw m
      (join s n (up4 n - n) (up4 n) (omega arith)
      (join s 16 (n - 16) n (omega arith)
      (join s 12 4 16 refl
      (join s 10 2 12 refl
      (join s 8 2 10 refl
      (join s 4 4 8 refl
      (join s 2 2 4 refl head-is (two-again s w 2 (omega arith)))
      (four-again s w 4 (omega arith)))
      (two-again s w 8 (omega arith)))
      (two-again s w 10 (omega arith)))
      (four-again s w 12 (omega arith)))
      refl)
      padding))

-- ---- SACK

-- n items of four bytes that stand one behind the other from a on
items-again : (f : ℕ → List ℕ) (s : List ℕ) (a i n : ℕ) → ((j : ℕ) → j < i + n → f j ≡ take 4 (drop (a + 4 * j) s)) → items f i n ≡ take (4 * n) (drop (a + 4 * i) s)
items-again f s a i zero e = refl
items-again f s a i (suc n) e =
    let z : a + 4 * (i + 1) ≡ a + 4 * i + 4 = omega arith in
    let m : 4 + 4 * n ≡ 4 * suc n = omega arith in
    let d : drop (a + 4 * (i + 1)) s ≡ drop 4 (drop (a + 4 * i) s) = ap (λ (k : ℕ). drop k s) z ∙ sym (drop-drop 4 (a + 4 * i) s) in
    (λ k. e i (omega arith) k ++ (items-again f s a (i + 1) n (λ j h. e j (omega arith)) ∙ ap (take (4 * n)) d) k)
    ∙ sym (take-add 4 (4 * n) (drop (a + 4 * i) s)) ∙ ap (λ (k : ℕ). take k (drop (a + 4 * i) s)) m

table-get : (g : ℕ → ℕ) (i n j : ℕ) (zs : List ℕ) → j < n → get_or (tabled g i n ++ zs) j 0 ≡ g (i + j)
table-get g i zero j zs h = absurd (omega arith)
table-get g i (suc n) zero zs h = let z : i ≡ i + 0 = omega arith in ap g z
table-get g i (suc n) (suc j) zs h = let z : i + 1 + j ≡ i + suc j = omega arith in table-get g (i + 1) n j zs (omega arith) ∙ ap g z

-- k is what is read of s
pub record SackTaken (s : List ℕ) (k : Sack) : Type 0 where
  pub head : record { point = k.point; window = k.window; blocks = k.blocks.count; repeats = k.listed } ≡ sack_head_of s
  pub blocks : k.blocks ≡ blocks_in rail s
  pub repeats : (i : ℕ) → i < k.listed → get_or k.dups i (record { 0 = 0 }) ≡ repeat_of s i

-- no flag stands there, and the counts fill the chunk
module _ (s : List ℕ) (w : All Octet s) (k : Sack) (t : SackTaken s k) (kind : u8 s 0 ≡ 3) (flags : u8 s 1 ≡ 0) (h : k.blocks.count ≤ 64) (g : k.listed ≤ 16)
    (counts : u16 s 2 ≡ 16 + 4 * (k.blocks.count + k.listed)) (within : u16 s 2 ≤ length s) where
  c : ℕ
  c = k.blocks.count

  count-is : c ≡ u16 s 12
  unfolding c sack_head_of
  count-is = ap (λ (x : SackHead). x.blocks) t.head

  -- an array of the blocks that was read, at a place that counts
  listed-is : (array : Blocks → List ℕ) (f : ℕ → ℕ) → array (blocks_in rail s) ≡ padded 64 (tabled f 0 (blocks_listed rail s)) → (i : ℕ) → i < c → get_or (array k.blocks) i 0 ≡ f i
  unfolding c blocks_in
  listed-is array f e i l =
      let n : c ≡ blocks_listed rail s = ap (λ (b : Blocks). b.count) t.blocks in
      let z : 0 + i ≡ i = omega arith in
      ap (λ (b : Blocks). get_or (array b) i 0) t.blocks
      ∙ ap (λ (x : List ℕ). get_or x i 0) e
      ∙ table-get f 0 (blocks_listed rail s) i (replicate (64 - length (tabled f 0 (blocks_listed rail s))) 0) (omega arith)
      ∙ ap f z

  starts-are : (i : ℕ) → i < c → get_or k.blocks.starts i 0 ≡ u16 s (16 + 4 * i)
  unfolding blocks_in
  starts-are = listed-is (λ (b : Blocks). b.starts) (λ (j : ℕ). u16 s (16 + 4 * j)) refl

  ends-are : (i : ℕ) → i < c → get_or k.blocks.ends i 0 ≡ u16 s (18 + 4 * i)
  unfolding blocks_in
  ends-are = listed-is (λ (b : Blocks). b.ends) (λ (j : ℕ). u16 s (18 + 4 * j)) refl

  block-again : (i : ℕ) → i < c → block_at k.blocks.starts k.blocks.ends i ≡ take 4 (drop (16 + 4 * i) s)
  unfolding c
  block-again i l =
      let z : 18 + 4 * i ≡ 16 + 4 * i + 2 = omega arith in
      let d : drop (18 + 4 * i) s ≡ drop 2 (drop (16 + 4 * i) s) = ap (λ (j : ℕ). drop j s) z ∙ sym (drop-drop 2 (16 + 4 * i) s) in
      (λ j. be16 (starts-are i l j) ++ be16 (ends-are i l j))
      ∙ (λ j. two-again s w (16 + 4 * i) (omega arith) j ++ (two-again s w (18 + 4 * i) (omega arith) ∙ ap (take 2) d) j)
      ∙ sym (take-add 2 2 (drop (16 + 4 * i) s))

  repeat-again : (i : ℕ) → i < k.listed → dup_at k.dups i ≡ take 4 (drop (16 + 4 * c + 4 * i) s)
  unfolding c repeat_of
  repeat-again i l =
      ap (λ (x : Tsn). be32 x.0) (t.repeats i l)
      ∙ ap (λ (j : ℕ). be32 (u32 s (16 + 4 * j + 4 * i))) (sym count-is)
      ∙ four-again s w (16 + 4 * c + 4 * i) (omega arith)

  sack-head : 3 ∷ 0 ∷ [] ≡ take 2 s
  sack-head = (λ i. sym kind i ∷ sym flags i ∷ []) ∙ first_two s (omega arith)

  pub sack-again : sack_bytes rail k ≡ take (u16 s 2) s
  unfolding c sack_head_of
  sack-again =
      let n : ℕ = u16 s 2 in
      let bs : List ℕ = items (block_at k.blocks.starts k.blocks.ends) 0 c in
      let ds : List ℕ = items (dup_at k.dups) 0 k.listed in
      let o : 16 + 4 * 0 ≡ 16 = refl in
      let p : 16 + 4 * c + 4 * 0 ≡ 16 + 4 * c = omega arith in
      let bl : length bs ≡ 4 * c = length-items (block_at k.blocks.starts k.blocks.ends) (λ j. refl) 0 c in
      let dl : length ds ≡ 4 * k.listed = length-items (dup_at k.dups) (λ j. refl) 0 k.listed in
      let m : 4 + length (sack_fields k) ≡ n = omega (arith, bl, dl, length-append bs ds) in
      let z : zeros n ≡ [] = zeros-none n (omega arith) in
      sack-is k h g
      ∙ (rw (m, z)
      (append-nil _
      ∙ join s (16 + 4 * c) (4 * k.listed) n (omega arith)
      (join s 16 (4 * c) (16 + 4 * c) refl
      (join s 14 2 16 refl
      (join s 12 2 14 refl
      (join s 8 4 12 refl
      (join s 4 4 8 refl
      (join s 2 2 4 refl sack-head (two-again s w 2 (omega arith)))
      (ap (λ (x : SackHead). be32 x.point.0) t.head ∙ four-again s w 4 (omega arith)))
      (ap (λ (x : SackHead). be32 x.window) t.head ∙ four-again s w 8 (omega arith)))
      (ap (λ (x : SackHead). be16 x.blocks) t.head ∙ two-again s w 12 (omega arith)))
      (ap (λ (x : SackHead). be16 x.repeats) t.head ∙ two-again s w 14 (omega arith)))
      (items-again (block_at k.blocks.starts k.blocks.ends) s 16 0 c (λ i l. block-again i (omega arith))))
      (items-again (dup_at k.dups) s (16 + 4 * c) 0 k.listed (λ i l. repeat-again i (omega arith)) ∙ ap (λ (j : ℕ). take (4 * k.listed) (drop j s)) p)))
