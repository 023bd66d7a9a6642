-- The sweep over the offsets that lists their runs: its invariant, and that it ends with the blocks.
-- Assumes nothing.
use Rattle.std.specs.Prelude.{◌≡◌, ℕ, zero, suc, ◌+◌, ◌-◌, ◌*◌, ◌/◌, ◌<◌, ◌≤◌, Bool, true, false, List, [], ◌∷◌, ◌++◌, map, length, drop, replicate, slice_index_or, slice_set, refl}
use Rattle.std.proofs.Common.{zero-le, suc-le-suc, append-nil, append_assoc, length-append, drop_of_length-le}
use Rattle.std.proofs.Math.Path.{ap}
use Rattle.std.proofs.lemmas.List.{map-append, length-map, set_at}
use Rattle.std.proofs.Math.Seq.{append_snoc}
use native.Mathlib.Omega.{arith}
use Rattle.scans.specs.Scan.{drop_at}
use Rattle.numbers.specs.declared.keeping.Blocks.{Blocks}
use Rattle.numbers.specs.Blocks.{GapBlock, block_ending, runs_from, runs, padded, blocks_laid_out, closed}

-- a number put after those that an array lists
pad-set : (n k : ℕ) (xs : List ℕ) (x : ℕ) → length xs ≡ k → k < n → slice_set (padded n xs) k x ≡ padded n (xs ++ (x ∷ []))
pad-set n k xs x e h =
    let m : n - length xs ≡ suc (n - (length xs + 1)) = omega arith in
    rw (m, set_at xs 0 (replicate (n - (length xs + 1)) 0) x k e, length-append xs (x ∷ []), append_snoc)

pad-put : (f : GapBlock → ℕ) (n : ℕ) (bs : List GapBlock) (b : GapBlock) → length bs < n → slice_set (padded n (map f bs)) (length bs) (f b) ≡ padded n (map f (bs ++ (b ∷ [])))
pad-put f n bs b h = rw (map-append f bs (b ∷ [])) (pad-set n (length bs) (map f bs) (f b) (length-map bs f) h)

ended-few : (i r : ℕ) → (length (block_ending i r) ≤ r) × (length (block_ending i r) ≤ 1)
ended-few i zero = (zero-le, zero-le)
ended-few i (suc r) = (suc-le-suc zero-le, suc-le-suc zero-le)

-- the arrays of one more block
close-is : (n : ℕ) (bs : List GapBlock) (i r : ℕ) → 0 < r → r ≤ i → length bs < n / 2 → closed (blocks_laid_out n bs) i r ≡ blocks_laid_out n (bs ++ block_ending i r)
unfolding closed blocks_laid_out
close-is n bs i zero z h f = absurd (omega arith)
close-is n bs i (suc r) z h f =
    let b : GapBlock = record { from = i - r; to = i } in
    let q : i - suc r + 1 ≡ i - r = omega arith in
    rw (q, pad-put (λ (x : GapBlock). x.from) (n / 2) bs b f, pad-put (λ (x : GapBlock). x.to) (n / 2) bs b f, length-append bs (b ∷ []))

-- a sweep over the n flags that has passed i of them, the last `row` of which are set
pub record Sweeping (xs : List Bool) (n : ℕ) (b : Blocks) (row i : ℕ) : Type 0 where
  pub long : length xs ≡ n
  pub within : i ≤ n
  pub bs : List GapBlock
  pub so_far : b ≡ blocks_laid_out n bs
  pub few : 2 * length bs + row ≤ i
  pub rest : bs ++ runs_from i row (drop i xs) ≡ runs xs

pub sweep-none : (xs : List Bool) (n : ℕ) → length xs ≡ n → Sweeping xs n (blocks_laid_out n []) 0 0
unfolding runs
sweep-none xs n e = record { long = e; within = zero-le; bs = []; so_far = refl; few = zero-le; rest = refl }

module _ {xs : List Bool} {n : ℕ} {b : Blocks} {row i : ℕ} (w : Sweeping xs n b row i) where
  -- there is room for one block more
  pub sweep-count : n / 2 + n / 2 ≡ n → 0 < row → b.count < n / 2
  unfolding blocks_laid_out
  sweep-count e z = let q : b.count ≡ length w.bs = ap (λ (x : Blocks). x.count) w.so_far in omega arith

  pub sweep-yes : i < n → slice_index_or xs i false ≡ true → Sweeping xs n b (row + 1) (i + 1)
  sweep-yes h t = record {
    long = w.long;
    within = omega arith;
    bs = w.bs;
    so_far = w.so_far;
    few = omega arith;
    rest = rw (drop_at xs i false (omega arith), t) at w.rest;
  }

  -- the block that ends here, if one does, is among those so far
  pub sweep-idle : row < 1 → i < n → slice_index_or xs i false ≡ false → Sweeping xs n b row (i + 1)
  sweep-idle z h t =
      let r : row ≡ 0 = omega arith in
      record {
        long = w.long;
        within = omega arith;
        bs = w.bs;
        so_far = w.so_far;
        few = omega arith;
        rest = rw r (rw (r, drop_at xs i false (omega arith), t) at w.rest);
      }

  pub sweep-no : 0 < row → i < n → slice_index_or xs i false ≡ false → Sweeping xs n (closed b i row) 0 (i + 1)
  sweep-no z h t = record {
    long = w.long;
    within = omega arith;
    bs = w.bs ++ block_ending i row;
    so_far = rw w.so_far (close-is n w.bs i row z (omega arith) (omega arith));
    few = rw (length-append w.bs (block_ending i row)) (omega (arith, ended-few i row));
    rest = rw append_assoc (rw (drop_at xs i false (omega arith), t) at w.rest);
  }

  pub sweep-done : row < 1 → n ≤ i → b ≡ blocks_laid_out n (runs xs)
  sweep-done z h =
      let r : row ≡ 0 = omega arith in
      let s : w.bs ++ [] ≡ runs xs = rw (r, drop_of_length-le xs {i = i} (omega arith)) at w.rest in
      rw (← s, append-nil w.bs) w.so_far

  pub sweep-end : n / 2 + n / 2 ≡ n → 0 < row → n ≤ i → closed b i row ≡ blocks_laid_out n (runs xs)
  sweep-end e z h =
      let s : w.bs ++ block_ending i row ≡ runs xs = rw (drop_of_length-le xs {i = i} (omega arith)) at w.rest in
      rw (w.so_far, ← s) (close-is n w.bs i row z (omega arith) (omega arith))
