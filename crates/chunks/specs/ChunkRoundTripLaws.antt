-- Each chunk, written and read. Assumes nothing.
use Prim.Native.Nat.{ℕ, zero, suc, ◌+◌, ◌-◌, ◌*◌, ◌/◌, ◌%◌, ◌<◌, ◌≤◌}
use Rattle.std.specs.Prelude.{◌≡◌, Bool, true, false, eqb, length, drop, replicate}
use Rattle.std.proofs.Math.Path.{refl, ap}
use Rattle.std.proofs.Common.{sym, ◌∙◌, drop_at, drop-drop}
use mathlib.Core.List.{List, [], ◌∷◌, ◌++◌, append_assoc}
use native.Mathlib.Omega.{arith}
use Rattle.std.proofs.Math.ListN.{get_or}
use Rattle.scans.specs.Upto.{smaller, smaller-le}
use Rattle.numbers.specs.Profile.{rail}
use Rattle.numbers.specs.Blocks.{padded}
use Rattle.numbers.specs.declared.circle.Tsn.{Tsn}
use Rattle.octets.specs.Bytes.{u16, u32, zeros}
use Rattle.octets.specs.BytesLaws.{u16-at, u32-at}
use Rattle.octets.specs.Writing.{items}
use Rattle.octets.specs.WritingLaws.{length-items, item-at}
use Rattle.chunks.specs.Frame.{framed, part_from, bytes_in, flagged, weight}
use Rattle.chunks.specs.BackLaws.{Back, framed-bytes}
use Rattle.chunks.specs.DataChunk.{data_of, data_bytes, data_fields, data_flags}
use Rattle.chunks.specs.DataLaws.{data_is}
use Rattle.chunks.specs.InitChunk.{init_of, init_fields}
use Rattle.chunks.specs.SackChunk.{sack_head_of, block_of, repeat_of, blocks_in, blocks_listed, tabled, sack_bytes, sack_fields, block_at, dup_at}
use Rattle.chunks.specs.SackLaws.{sack-is}
use Rattle.chunks.specs.ShutdownChunk.{point_of, shutdown_bytes}
use Rattle.chunks.specs.CookieChunk.{cookie_echo_bytes}
use Rattle.chunks.specs.CookieLaws.{echo-is}
use Rattle.chunks.specs.declared.data.Data.{Data}
use Rattle.chunks.specs.declared.init.Init.{Init}
use Rattle.chunks.specs.declared.sack.Sack.{Sack}

-- ---- DATA

flags-back : (u b e : Bool)
    → (eqb ((weight u 4 + weight b 2 + weight e 1) / 4 % 2) 1 ≡ u)
    × (eqb ((weight u 4 + weight b 2 + weight e 1) / 2 % 2) 1 ≡ b)
    × (eqb ((weight u 4 + weight b 2 + weight e 1) / 1 % 2) 1 ≡ e)
flags-back true true true = (refl, refl, refl)
flags-back true true false = (refl, refl, refl)
flags-back true false true = (refl, refl, refl)
flags-back true false false = (refl, refl, refl)
flags-back false true true = (refl, refl, refl)
flags-back false true false = (refl, refl, refl)
flags-back false false true = (refl, refl, refl)
flags-back false false false = (refl, refl, refl)

module _ (d : Data) (p : List ℕ) (h : length p ≤ 512) (n : length p ≡ 0 → ⊥) where
  pub data-back : Back data_of d (data_bytes rail d p)
  unfolding data_of
  data-back =
      rw (data_is d p h n)
      (record {
        value = λ rest.
            let s : List ℕ = framed 0 (data_flags d) (data_fields d ++ p) ++ rest in
            let g = flags-back d.unordered d.begin d.end in
            rw (u32-at s 4 d.tsn.0 refl, u16-at s 8 d.stream.0 refl, u16-at s 10 d.ssn.0 refl, u32-at s 12 d.ppid refl, g.0, g.1, g.2);
      })

  pub payload-back : Back (λ (s : List ℕ). bytes_in s (part_from 16 s)) p (data_bytes rail d p)
  payload-back = rw (data_is d p h n) (framed-bytes 0 (data_flags d) (data_fields d) p)

-- ---- INIT, and the fixed fields of INIT ACK

module _ (k : ℕ) (v : Init) (t : List ℕ) where
  pub init-back : Back init_of v (framed k 0 (init_fields v ++ t))
  unfolding init_of
  init-back = record {
    value = λ rest.
        let s : List ℕ = framed k 0 (init_fields v ++ t) ++ rest in
        rw (u32-at s 4 v.tag refl, u32-at s 8 v.window refl, u16-at s 12 v.outs refl, u16-at s 14 v.ins refl, u32-at s 16 v.tsn.0 refl);
  }

  pub parameters-back : Back (λ (s : List ℕ). bytes_in s (part_from 20 s)) t (framed k 0 (init_fields v ++ t))
  parameters-back = framed-bytes k 0 (init_fields v) t

-- ---- HEARTBEAT and HEARTBEAT ACK, COOKIE ECHO, ABORT and ERROR: all that follows the head

pub value-back : (k f : ℕ) (v : List ℕ) → Back (λ (s : List ℕ). bytes_in s (part_from 4 s)) v (framed k f v)
value-back k f v = framed-bytes k f [] v

pub cookie-back : (c : List ℕ) → length c ≤ 256 → (length c ≡ 0 → ⊥) → Back (λ (s : List ℕ). bytes_in s (part_from 4 s)) c (cookie_echo_bytes c)
cookie-back c h n = rw (echo-is c h n) (value-back 10 0 c)

-- ---- the T bit of ABORT and SHUTDOWN COMPLETE

pub reflected-back : (k : ℕ) (t : Bool) (v : List ℕ) → Back (λ (s : List ℕ). flagged s 1) t (framed k (weight t 1) v)
reflected-back k true v = record { value = λ rest. refl }
reflected-back k false v = record { value = λ rest. refl }

-- ---- SHUTDOWN

pub point-back : (t : Tsn) → Back point_of t (shutdown_bytes t)
unfolding point_of
point-back t = record { value = λ rest. rw (u32-at (shutdown_bytes t ++ rest) 4 t.0 refl) }

-- ---- SACK

-- numbers that are alike as far as they are listed
pub table-alike : (f g : ℕ → ℕ) (i n : ℕ) → ((j : ℕ) → j < i + n → f j ≡ g j) → tabled f i n ≡ tabled g i n
table-alike f g i zero e = refl
table-alike f g i (suc n) e = rw (e i (omega arith), table-alike f g (i + 1) n (λ j h. e j (omega arith)))

-- item i of those that stand from a on
item-there : (f : ℕ → List ℕ) → ((k : ℕ) → length (f k) ≡ 4) → (s : List ℕ) (a n : ℕ) (t : List ℕ) → drop a s ≡ items f 0 n ++ t → (i : ℕ) → i < n
    → (r : List ℕ) × (drop (a + 4 * i) s ≡ f i ++ r)
item-there f four s a n t e i h =
    let z : 0 + i ≡ i = omega arith in (
      _,
      sym (drop-drop (4 * i) a s) ∙ ap (drop (4 * i)) e ∙ item-at f four 0 n i t h ∙ ap (λ (j : ℕ). f j ++ (items f (0 + i + 1) (n - (i + 1)) ++ t)) z,
    )

module _ (k : Sack) where
  bytes : List ℕ → List ℕ
  bytes rest = framed 3 0 (sack_fields k) ++ rest

  behind : List ℕ → List ℕ
  behind rest = zeros (4 + length (sack_fields k)) ++ rest

  -- what stands behind the fixed fields
  lists-are : (rest : List ℕ) → drop 16 (bytes rest)
      ≡ items (block_at k.blocks.starts k.blocks.ends) 0 k.blocks.count ++ (items (dup_at k.dups) 0 k.listed ++ behind rest)
  unfolding bytes behind
  lists-are rest = simp append_assoc

  block-there : (rest : List ℕ) (i : ℕ) → i < k.blocks.count
      → (r : List ℕ) × (drop (16 + 4 * i) (bytes rest) ≡ block_at k.blocks.starts k.blocks.ends i ++ r)
  block-there rest i h =
      item-there (block_at k.blocks.starts k.blocks.ends) (λ j. refl) (bytes rest) 16 k.blocks.count (items (dup_at k.dups) 0 k.listed ++ behind rest) (lists-are rest) i h

  start-there : (rest : List ℕ) (i : ℕ) → i < k.blocks.count → u16 (bytes rest) (16 + 4 * i) ≡ get_or k.blocks.starts i 0
  start-there rest i h = u16-at (bytes rest) (16 + 4 * i) (get_or k.blocks.starts i 0) (block-there rest i h).1

  end-there : (rest : List ℕ) (i : ℕ) → i < k.blocks.count → u16 (bytes rest) (16 + 4 * i + 2) ≡ get_or k.blocks.ends i 0
  end-there rest i h =
      u16-at (bytes rest) (16 + 4 * i + 2) (get_or k.blocks.ends i 0)
      (sym (drop-drop 2 (16 + 4 * i) (bytes rest)) ∙ ap (drop 2) (block-there rest i h).1)

  counted : (rest : List ℕ) → u16 (bytes rest) 12 ≡ k.blocks.count
  unfolding bytes
  counted rest = u16-at (bytes rest) 12 k.blocks.count refl

  repeat-there : (rest : List ℕ) (i : ℕ) → i < k.listed → u32 (bytes rest) (16 + 4 * k.blocks.count + 4 * i) ≡ (get_or k.dups i (record { 0 = 0 })).0
  repeat-there rest i h =
      let b : ℕ = k.blocks.count in
      let l : length (items (block_at k.blocks.starts k.blocks.ends) 0 b) ≡ 4 * b = length-items (block_at k.blocks.starts k.blocks.ends) (λ j. refl) 0 b in
      let d : drop (16 + 4 * b) (bytes rest) ≡ items (dup_at k.dups) 0 k.listed ++ behind rest = sym (drop-drop (4 * b) 16 (bytes rest)) ∙ ap (drop (4 * b)) (lists-are rest) ∙ drop_at (items (block_at k.blocks.starts k.blocks.ends) 0 b) (items (dup_at k.dups) 0 k.listed ++ behind rest) (4 * b) l in
      u32-at (bytes rest) (16 + 4 * b + 4 * i) (get_or k.dups i (record { 0 = 0 })).0
      (item-there (dup_at k.dups) (λ j. refl) (bytes rest) (16 + 4 * b) k.listed (behind rest) d i h).1

  module _ (h : k.blocks.count ≤ 64) (g : k.listed ≤ 16) where
    pub sack-back : Back sack_head_of (record { point = k.point; window = k.window; blocks = k.blocks.count; repeats = k.listed }) (sack_bytes rail k)
    unfolding sack_head_of bytes
    sack-back =
        rw (sack-is k h g)
        (record { value = λ rest. rw (u32-at (bytes rest) 4 k.point.0 refl, u32-at (bytes rest) 8 k.window refl, counted rest, u16-at (bytes rest) 14 k.listed refl) })

    pub block_back : (i : ℕ) → i < k.blocks.count
        → Back (λ (s : List ℕ). block_of s i) (record { start = get_or k.blocks.starts i 0; end = get_or k.blocks.ends i 0 }) (sack_bytes rail k)
    unfolding block_of bytes
    block_back i l = rw (sack-is k h g) (record { value = λ rest. rw (start-there rest i l, end-there rest i l) })

    pub repeat-back : (i : ℕ) → i < k.listed → Back (λ (s : List ℕ). repeat_of s i) (get_or k.dups i (record { 0 = 0 })) (sack_bytes rail k)
    unfolding repeat_of bytes
    repeat-back i l = rw (sack-is k h g) (record { value = λ rest. rw (counted rest, repeat-there rest i l) })

    -- the arrays as far as they count, with zeros behind
    pub blocks-back : Back (blocks_in rail)
        (record {
          count = k.blocks.count;
          starts = padded 64 (tabled (λ (i : ℕ). get_or k.blocks.starts i 0) 0 k.blocks.count);
          ends = padded 64 (tabled (λ (i : ℕ). get_or k.blocks.ends i 0) 0 k.blocks.count);
        })
        (sack_bytes rail k)
    unfolding blocks_in blocks_listed bytes
    blocks-back =
        rw (sack-is k h g)
        (record {
          value = λ rest.
              let m : smaller k.blocks.count 64 ≡ k.blocks.count = smaller-le k.blocks.count 64 h in
              rw (
                counted rest,
                m,
                table-alike (λ (i : ℕ). u16 (bytes rest) (16 + 4 * i)) (λ (i : ℕ). get_or k.blocks.starts i 0) 0 k.blocks.count (λ i l. start-there rest i (omega arith)),
                table-alike (λ (i : ℕ). u16 (bytes rest) (18 + 4 * i)) (λ (i : ℕ). get_or k.blocks.ends i 0) 0 k.blocks.count
                    (λ i l. let z : 18 + 4 * i ≡ 16 + 4 * i + 2 = omega arith in ap (u16 (bytes rest)) z ∙ end-there rest i (omega arith)),
              );
        })

-- numbers in an array with zeros behind are listed as they stand there
table_of : (ys zs : List ℕ) (f : ℕ → ℕ) (i : ℕ) → ((j : ℕ) → f (i + j) ≡ get_or (ys ++ zs) j 0) → tabled f i (length ys) ≡ ys
table_of [] zs f i e = refl
table_of (y ∷ ys) zs f i e =
    let a : f i ≡ y = ap f (omega arith) ∙ e 0 in
    rw (a, table_of ys zs f (i + 1) (λ j. let z : i + 1 + j ≡ i + suc j = omega arith in ap f z ∙ e (suc j)))

pub listed_back : (n : ℕ) (ys : List ℕ) → padded n (tabled (λ (i : ℕ). get_or (padded n ys) i 0) 0 (length ys)) ≡ padded n ys
listed_back n ys =
    ap (padded n) (table_of ys (replicate (n - length ys) 0) (λ (i : ℕ). get_or (padded n ys) i 0) 0 (λ j. let z : 0 + j ≡ j = omega arith in ap (λ (i : ℕ). get_or (padded n ys) i 0) z))
