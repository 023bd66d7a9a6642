-- What the tables of bytes and of halves of bytes hold: each number's register, after so many bits.
-- Assumes nothing.
use Rattle.std.specs.Prelude.{◌≡◌, ℕ, zero, suc, ◌+◌, ◌*◌, ◌<◌, List, [], slice_index, slice_index_or}
use Rattle.std.proofs.Common.{ap, ◌∙◌, zero-add, arith}
use Rattle.crc32c_register.specs.Register.{computed, bits, entries, table_list}
use Rattle.crc32c_register.specs.RegisterLaws.{bits-computed}

entry-at : (k i n j : ℕ) → j < k → slice_index (entries k i n) j ≡ computed n (i + j)
entry-at zero i n j h = absurd (omega arith)
entry-at (suc k) i n zero h = ap (computed n) (omega arith)
entry-at (suc k) i n (suc j) h =
    let e : suc i + j ≡ i + suc j = omega arith in
    entry-at k (suc i) n j (omega arith) ∙ ap (computed n) e

table-at : (k t n j : ℕ) → j < t → slice_index_or (table_list k t n) j [] ≡ entries k 0 (n + 8 * j)
table-at k zero n j h = absurd (omega arith)
table-at k (suc t) n zero h = ap (entries k 0) (omega arith)
table-at k (suc t) n (suc j) h =
    let e : 8 + n + 8 * j ≡ n + 8 * suc j = omega arith in
    table-at k t (8 + n) j (omega arith) ∙ ap (entries k 0) e

-- a list of k entries that were found to be those after n bits
pub listed-entry : (k n : ℕ) {l : List ℕ} → l ≡ entries k 0 n → (i : ℕ) → i < k → slice_index l i ≡ bits n i
listed-entry k n e i h =
    ap (λ (l : List ℕ). slice_index l i) e ∙ entry-at k 0 n i h ∙ ap (computed n) (zero-add i) ∙ bits-computed n i

-- the same of so many tables, the first after n bits, each next one after eight more
pub tabled-entry : (k t n : ℕ) {ts : List (List ℕ)} → ts ≡ table_list k t n → (j i : ℕ) → j < t → i < k
    → slice_index (slice_index_or ts j []) i ≡ bits (n + 8 * j) i
tabled-entry k t n e j i hj hi =
    ap (λ (l : List (List ℕ)). slice_index (slice_index_or l j []) i) e
    ∙ listed-entry k (n + 8 * j) (table-at k t n j hj) i hi
