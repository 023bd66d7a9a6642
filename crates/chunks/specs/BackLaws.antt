-- Reading what a writer wrote gives the value back, its length and nothing else: once for every chunk. Assumes nothing.
use Rattle.std.specs.Prelude.{ℕ, ◌+◌, ◌-◌, ◌≤◌, ◌≡◌, refl, List, [], ◌++◌, length, drop}
use Rattle.std.proofs.Common.{sym, ap, ◌∙◌, append_assoc, append-nil, arith, length-append, take_at, drop_at}
use Rattle.scans.specs.Upto.{smaller-left, smaller-right, smaller-le, pick_less}
use Rattle.octets.specs.Bytes.{u16, up4, zeros}
use Rattle.octets.specs.Walk.{size, Whole}
use Rattle.octets.specs.Writing.{head, Wrote}
use Rattle.octets.specs.WritingLaws.{chunk-length, chunk-size, wrote-is}
use Rattle.chunks.specs.Frame.{framed, chunk_end, part_from, bytes_in}
use Rattle.chunks.specs.FrameLaws.{framed-long}

-- whatever follows the bytes bs, the reader gives v
pub record Back {A : Type 0} (read : List ℕ → A) (v : A) (bs : List ℕ) : Type 0 where
  pub value : (rest : List ℕ) → read (bs ++ rest) ≡ v

-- what a writer left, read: the value, and behind the chunk all is as it was
pub read_back : {A : Type 0} {read : List ℕ → A} {v : A} {out bs exit : List ℕ} {r : ℕ} → Back read v bs → Wrote out bs r exit → length bs ≤ 65532 → length bs ≤ length out
    → (read exit ≡ v) × (drop (length bs) exit ≡ drop (length bs) out)
read_back {read = read} {v} {out} {bs} b w h k = rw (wrote-is w h k) (b.value (drop (length bs) out), drop_at bs (drop (length bs) out) (length bs) refl)

-- ---- where a chunk ends

-- it ends within s, and no later than its length
pub ended-within : (s : List ℕ) → (chunk_end s ≤ u16 s 2) × (chunk_end s ≤ length s)
unfolding chunk_end
ended-within s = (smaller-left (u16 s 2) (length s), smaller-right (u16 s 2) (length s))

pub part-inside : (k : ℕ) (s : List ℕ) → (part_from k s).at + (part_from k s).len ≤ length s
unfolding part_from
part-inside k s =
    pick_less (λ x. x + (chunk_end s - k) ≤ length s) k (chunk_end s) k (chunk_end s) (λ h. omega (arith, (ended-within s).1)) (λ h. omega (arith, (ended-within s).1))

-- a chunk whose length lies within s ends there, and its parts are as long as they say
module _ (s : List ℕ) (n : ℕ) (e : u16 s 2 ≡ n) (h : n ≤ length s) where
  pub ended_is : chunk_end s ≡ n
  unfolding chunk_end
  ended_is = rw e (smaller-le n (length s) h)

  pub from_is : (k : ℕ) → k ≤ n → part_from k s ≡ record { at = k; len = n - k }
  unfolding part_from
  from_is k l = rw (ended_is, smaller-le k n l)

module _ (k f : ℕ) (v : List ℕ) where
  pub framed-whole : Whole (framed k f v)
  framed-whole =
      let l : length (framed k f v) ≡ up4 (4 + length v) = framed-long k f v in
      record { some = omega arith; exact = ap size (sym (append-nil (framed k f v))) ∙ chunk-size k f (4 + length v) v [] (omega arith) ∙ sym l }

  pub framed-length : Back (λ (s : List ℕ). u16 s 2) (4 + length v) (framed k f v)
  framed-length = record { value = λ rest. chunk-length k f (4 + length v) v rest }

  -- it lies within what it begins
  pub framed-within : (rest : List ℕ) → 4 + length v ≤ length (framed k f v ++ rest)
  framed-within rest = omega (arith, length-append (framed k f v) rest, framed-long k f v)

-- ---- the part behind the fixed fields a

module _ (k f : ℕ) (a t : List ℕ) where
  pub framed-part : Back (part_from (4 + length a)) (record { at = 4 + length a; len = length t }) (framed k f (a ++ t))
  framed-part = record {
    value = λ rest.
        let z : 4 + length (a ++ t) - (4 + length a) ≡ length t = omega (arith, length-append a t) in
        from_is (framed k f (a ++ t) ++ rest) (4 + length (a ++ t)) ((framed-length k f (a ++ t)).value rest) (framed-within k f (a ++ t) rest) (4 + length a) (omega (arith, length-append a t))
        ∙ ap (λ (j : ℕ). record { at = 4 + length a; len = j }) z;
  }

  pub framed-bytes : Back (λ (s : List ℕ). bytes_in s (part_from (4 + length a) s)) t (framed k f (a ++ t))
  framed-bytes = record {
    value = λ rest.
        let s : List ℕ = framed k f (a ++ t) ++ rest in
        let n : ℕ = 4 + length (a ++ t) in
        let g : s ≡ (head k f n ++ a) ++ (t ++ (zeros n ++ rest)) = simp append_assoc in
        let d : drop (4 + length a) s ≡ t ++ (zeros n ++ rest) = ap (drop (4 + length a)) g ∙ drop_at (head k f n ++ a) (t ++ (zeros n ++ rest)) (4 + length a) (omega arith) in
        rw (framed-part.value rest, d) (take_at t (zeros n ++ rest) (length t) refl);
  }
