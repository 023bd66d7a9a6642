-- The register's laws: xor is associative, a bit's step goes over xor, and so four bytes are four looks into tables.
-- Assumes nothing.
use Rattle.std.specs.Prelude.{◌≡◌, refl, ℕ, zero, suc, ◌+◌, ◌*◌, ◌/◌, ◌%◌, ◌^◌, ◌≤◌, ◌<◌, List, [], ◌∷◌, ◌++◌, length, get_or, drop}
use Rattle.std.proofs.Common.{sym, ap, ap₂, ◌∙◌, mod-lt, mul-one, le_of_suc-le-suc, not-suc-le-zero, zero-lt-suc, zero-add, suc-add, add-suc, mod-eq_of_lt, add-one, arith, drop_of_length-le, drop-cons, pow_pos, shr-shr, lit<}
use Rattle.std.proofs.Math.Arith.{bin_ind, digits_mod}
use Rattle.std.proofs.Math.Pow.{split}
use Rattle.std.specs.Int.Bits.{bit_xor, differ, xor_step, xor_self, xor_shifted, shifted_half, shifted_even}
use Rattle.std.proofs.lemmas.Nat.{xor_comm, xor_shr}
use Rattle.crc32c_register.specs.Register.{polynomial, bit, computed, bits, crc_from, crc_of, word}

absurd2 : {ℓ : ℕ} {A : Type 0} → suc (suc ℓ) < 2 → A
absurd2 h = absurd (not-suc-le-zero (le_of_suc-le-suc (le_of_suc-le-suc h)))

two_pos : zero < 2
two_pos = zero-lt-suc 1

-- ---- xor is associative
differ3 : (x y z : ℕ) → x < 2 → y < 2 → z < 2 → differ (differ x y) z ≡ differ x (differ y z)
differ3 zero y z hx hy hz = refl
differ3 (suc zero) zero z hx hy hz = refl
differ3 (suc zero) (suc zero) zero hx hy hz = refl
differ3 (suc zero) (suc zero) (suc zero) hx hy hz = refl
differ3 (suc zero) (suc zero) (suc (suc z)) hx hy hz = absurd2 hz
differ3 (suc zero) (suc (suc y)) z hx hy hz = absurd2 hy
differ3 (suc (suc x)) y z hx hy hz = absurd2 hx

differ-lt : (x y : ℕ) → x < 2 → y < 2 → differ x y < 2
differ-lt zero y hx hy = hy
differ-lt (suc x) zero hx hy = hx
differ-lt (suc zero) (suc y) hx hy = omega arith
differ-lt (suc (suc x)) (suc y) hx hy = absurd2 hx

xor-half : (a b : ℕ) → bit_xor a b / 2 ≡ bit_xor (a / 2) (b / 2)
xor-half a b = xor_shr a b 1

xor-digit : (a b : ℕ) → bit_xor a b % 2 ≡ differ (a % 2) (b % 2)
xor-digit a b =
    ap (λ (x : ℕ). x % 2) (xor_step a b)
    ∙ digits_mod (bit_xor (a / 2) (b / 2)) (differ-lt (a % 2) (b % 2) (mod-lt a two_pos) (mod-lt b two_pos))

pub xor_assoc : (a b c : ℕ) → bit_xor (bit_xor a b) c ≡ bit_xor a (bit_xor b c)
xor_assoc a =
    bin_ind (λ (n : ℕ). (b c : ℕ) → bit_xor (bit_xor n b) c ≡ bit_xor n (bit_xor b c)) (λ b c. refl)
    (λ n ih b c.
    xor_step (bit_xor n b) c
    ∙ ap₂ (λ (x y : ℕ). bit_xor x (c / 2) * 2 + differ y (c % 2)) (xor-half n b) (xor-digit n b)
    ∙ ap₂ (λ (x y : ℕ). x * 2 + y) (ih (b / 2) (c / 2))
    (differ3 (n % 2) (b % 2) (c % 2) (mod-lt n two_pos) (mod-lt b two_pos) (mod-lt c two_pos))
    ∙ sym
    (xor_step n (bit_xor b c)
    ∙ ap₂ (λ (x y : ℕ). bit_xor (n / 2) x * 2 + differ (n % 2) y) (xor-half b c) (xor-digit b c)))
    a

pub xor-swap : (a b c d : ℕ) → bit_xor (bit_xor a b) (bit_xor c d) ≡ bit_xor (bit_xor a c) (bit_xor b d)
xor-swap a b c d =
    xor_assoc a b (bit_xor c d)
    ∙ ap (bit_xor a) (sym (xor_assoc b c d) ∙ ap (λ (x : ℕ). bit_xor x d) (xor_comm b c) ∙ xor_assoc c b d)
    ∙ sym (xor_assoc a c (bit_xor b d))

-- ---- what a table's entry computes
pub bits-computed : (n x : ℕ) → computed n x ≡ bits n x
unfolding bits
bits-computed n x = refl

-- ---- a bit's step goes over xor
scaled : (p q : ℕ) → p < 2 → q < 2 → differ p q * polynomial ≡ bit_xor (p * polynomial) (q * polynomial)
scaled zero q hp hq = refl
scaled (suc zero) zero hp hq = refl
scaled (suc zero) (suc zero) hp hq = refl
scaled (suc zero) (suc (suc q)) hp hq = absurd2 hq
scaled (suc (suc p)) q hp hq = absurd2 hp

bit-xor : (x y : ℕ) → bit (bit_xor x y) ≡ bit_xor (bit x) (bit y)
bit-xor x y =
    ap₂ (λ (p h : ℕ). bit_xor (p * polynomial) h) (xor-digit x y) (xor-half x y)
    ∙ ap (λ (p : ℕ). bit_xor p (bit_xor (x / 2) (y / 2))) (scaled (x % 2) (y % 2) (mod-lt x two_pos) (mod-lt y two_pos))
    ∙ xor-swap (x % 2 * polynomial) (y % 2 * polynomial) (x / 2) (y / 2)

pub bits-xor : (n x y : ℕ) → bits n (bit_xor x y) ≡ bit_xor (bits n x) (bits n y)
unfolding bits
bits-xor zero x y = refl
bits-xor (suc n) x y = ap (bits n) (bit-xor x y) ∙ bits-xor n (bit x) (bit y)

-- zeros that are shifted out leave no trace
bits-shift : (n a : ℕ) → bits n (a * 2 ^ n) ≡ a
unfolding bits
bits-shift zero a = mul-one a
bits-shift (suc n) a =
    ap₂ (λ (p h : ℕ). bits n (bit_xor (p * polynomial) h)) (shifted_even a n) (shifted_half a n) ∙ bits-shift n a

-- the n low bits and the others apart
pub bits-split : (n x : ℕ) → bits n x ≡ bit_xor (bits n (x % 2 ^ n)) (x / 2 ^ n)
bits-split n x =
    ap (bits n) (sym (xor_shifted (x / 2 ^ n) n (x % 2 ^ n) (mod-lt x (pow_pos n)) ∙ split x n))
    ∙ bits-xor n (x / 2 ^ n * 2 ^ n) (x % 2 ^ n)
    ∙ ap (λ (h : ℕ). bit_xor h (bits n (x % 2 ^ n))) (bits-shift n (x / 2 ^ n))
    ∙ xor_comm (x / 2 ^ n) (bits n (x % 2 ^ n))

pub bits-add : (m n x : ℕ) → bits (m + n) x ≡ bits n (bits m x)
unfolding bits
bits-add zero n x = ap (λ (k : ℕ). bits k x) (zero-add n)
bits-add (suc m) n x = ap (λ (k : ℕ). bits k x) (suc-add m n) ∙ bits-add m n (bit x)

-- ---- over a list
pub crc-append : (c : ℕ) (xs ys : List ℕ) → crc_from c (xs ++ ys) ≡ crc_from (crc_from c xs) ys
unfolding crc_from
crc-append c [] ys = refl
crc-append c (x ∷ xs) ys = crc-append (bits 8 (bit_xor c x)) xs ys

pub crc-end : (c : ℕ) (s : List ℕ) (i : ℕ) → length s ≤ i → c ≡ crc_from c (drop i s)
unfolding crc_from
crc-end c s i h = ap (crc_from c) (sym (drop_of_length-le s h))

-- one byte more
pub crc-next : (r v : ℕ) (s : List ℕ) (i : ℕ) → i < length s → v ≡ crc_from r (get_or s i 0 ∷ [])
    → crc_from v (drop (i + 1) s) ≡ crc_from r (drop i s)
unfolding crc_from
crc-next r v s i h e =
    ap (λ (x : ℕ). crc_from x (drop (i + 1) s)) e
    ∙ ap (λ (n : ℕ). crc_from r (get_or s i 0 ∷ drop n s)) (add-one i)
    ∙ ap (crc_from r) (sym (drop-cons s i 0 h))

-- the whole of it
pub crc-of : (s : List ℕ) → bit_xor (crc_from 0xFFFF_FFFF s) 0xFFFF_FFFF ≡ crc_of s
unfolding crc_of
crc-of s = refl

-- one byte, half of it at a time
pub crc-halves : (c b : ℕ) → bits 4 (bits 4 (bit_xor c b)) ≡ crc_from c (b ∷ [])
unfolding crc_from
crc-halves c b = sym (bits-add 4 4 (bit_xor c b))

-- ---- four bytes are the number that they make

-- the lowest byte goes by, and those above it are added to what it leaves
lowest : (n c b w : ℕ) → b < 256 → bits (8 + n) (bit_xor c (b + 256 * w)) ≡ bits n (bit_xor (bits 8 (bit_xor c b)) w)
lowest n c b w h =
    let e : b + 256 * w ≡ w * 2 ^ 8 + b = omega arith in
    bits-add 8 n (bit_xor c (b + 256 * w))
    ∙ ap (bits n)
    (ap (λ (x : ℕ). bits 8 (bit_xor c x)) (e ∙ sym (xor_shifted w 8 b h) ∙ xor_comm (w * 2 ^ 8) b)
    ∙ ap (bits 8) (sym (xor_assoc c b (w * 2 ^ 8)))
    ∙ bits-xor 8 (bit_xor c b) (w * 2 ^ 8)
    ∙ ap (bit_xor (bits 8 (bit_xor c b))) (bits-shift 8 w))

crc-word : (c b₀ b₁ b₂ b₃ : ℕ) → b₀ < 256 → b₁ < 256 → b₂ < 256
    → bits 32 (bit_xor c (word b₀ b₁ b₂ b₃)) ≡ crc_from c (b₀ ∷ b₁ ∷ b₂ ∷ b₃ ∷ [])
unfolding crc_from
crc-word c b₀ b₁ b₂ b₃ h₀ h₁ h₂ =
    let e : word b₀ b₁ b₂ b₃ ≡ b₀ + 256 * (b₁ + 256 * (b₂ + 256 * b₃)) = omega arith in
    let r₀ : ℕ = bits 8 (bit_xor c b₀) in
    ap (λ (x : ℕ). bits 32 (bit_xor c x)) e
    ∙ lowest 24 c b₀ (b₁ + 256 * (b₂ + 256 * b₃)) h₀
    ∙ lowest 16 r₀ b₁ (b₂ + 256 * b₃) h₁
    ∙ lowest 8 (bits 8 (bit_xor r₀ b₁)) b₂ b₃ h₂

-- eight bytes: what waits for the register, and what does not
pub crc-words : (c b₀ b₁ b₂ b₃ b₄ b₅ b₆ b₇ : ℕ) → b₀ < 256 → b₁ < 256 → b₂ < 256 → b₄ < 256 → b₅ < 256 → b₆ < 256
    → bit_xor (bits 32 (word b₄ b₅ b₆ b₇)) (bits 64 (bit_xor c (word b₀ b₁ b₂ b₃)))
    ≡ crc_from c (b₀ ∷ b₁ ∷ b₂ ∷ b₃ ∷ b₄ ∷ b₅ ∷ b₆ ∷ b₇ ∷ [])
unfolding crc_from
crc-words c b₀ b₁ b₂ b₃ b₄ b₅ b₆ b₇ h₀ h₁ h₂ h₄ h₅ h₆ =
    let x : ℕ = bit_xor c (word b₀ b₁ b₂ b₃) in
    let y : ℕ = word b₄ b₅ b₆ b₇ in
    xor_comm (bits 32 y) (bits 64 x)
    ∙ ap (λ (z : ℕ). bit_xor z (bits 32 y)) (bits-add 32 32 x)
    ∙ sym (bits-xor 32 (bits 32 x) y)
    ∙ ap (λ (r : ℕ). bits 32 (bit_xor r y)) (crc-word c b₀ b₁ b₂ b₃ h₀ h₁ h₂)
    ∙ crc-word (crc_from c (b₀ ∷ b₁ ∷ b₂ ∷ b₃ ∷ [])) b₄ b₅ b₆ b₇ h₄ h₅ h₆

-- four bytes that were added to the register take themselves out again: they count as zeros
pub crc-without : (c b₀ b₁ b₂ b₃ : ℕ) → b₀ < 256 → b₁ < 256 → b₂ < 256
    → crc_from (bit_xor c (word b₀ b₁ b₂ b₃)) (b₀ ∷ b₁ ∷ b₂ ∷ b₃ ∷ []) ≡ crc_from c (0 ∷ 0 ∷ 0 ∷ 0 ∷ [])
crc-without c b₀ b₁ b₂ b₃ h₀ h₁ h₂ =
    let w : ℕ = word b₀ b₁ b₂ b₃ in
    sym (crc-word (bit_xor c w) b₀ b₁ b₂ b₃ h₀ h₁ h₂)
    ∙ ap (bits 32) (xor_assoc c w w ∙ ap (bit_xor c) (xor_self w))
    ∙ crc-word c 0 0 0 0 (lit< tt) (lit< tt) (lit< tt)

-- ---- a number is the sum of its bytes, each looked up in its own table
byte-off : (n x : ℕ) → bits (8 + n) x ≡ bit_xor (bits n (x / 256)) (bits (8 + n) (x % 256))
byte-off n x =
    bits-add 8 n x
    ∙ ap (bits n) (bits-split 8 x)
    ∙ bits-xor n (bits 8 (x % 256)) (x / 256)
    ∙ ap (λ (z : ℕ). bit_xor z (bits n (x / 256))) (sym (bits-add 8 n (x % 256)))
    ∙ xor_comm (bits (8 + n) (x % 256)) (bits n (x / 256))

pub four-looks : (n x : ℕ) → x < 2 ^ 32
    → bit_xor (bit_xor (bit_xor (bits (8 + n) (x / 2 ^ 24 % 256)) (bits (8 + (8 + n)) (x / 2 ^ 16 % 256)))
    (bits (8 + (8 + (8 + n))) (x / 2 ^ 8 % 256))) (bits (8 + (8 + (8 + (8 + n)))) (x % 256))
    ≡ bits (8 + (8 + (8 + (8 + n)))) x
four-looks n x h =
    let top : x / 2 ^ 24 < 256 = omega arith in
    sym
    (byte-off (8 + (8 + (8 + n))) x
    ∙ ap (λ (z : ℕ). bit_xor z (bits (8 + (8 + (8 + (8 + n)))) (x % 256)))
    (byte-off (8 + (8 + n)) (x / 2 ^ 8)
    ∙ ap (λ (z : ℕ). bit_xor z (bits (8 + (8 + (8 + n))) (x / 2 ^ 8 % 256)))
    (ap (bits (8 + (8 + n))) (shr-shr x 8 8)
    ∙ byte-off (8 + n) (x / 2 ^ 16)
    ∙ ap (λ (z : ℕ). bit_xor z (bits (8 + (8 + n)) (x / 2 ^ 16 % 256)))
    (ap (bits (8 + n)) (shr-shr x 16 8 ∙ sym (mod-eq_of_lt top))))))

-- eight bytes more
drop-one : (s : List ℕ) (i k : ℕ) → i + k < length s → drop (i + k) s ≡ get_or s (i + k) 0 ∷ drop (i + suc k) s
drop-one s i k h = drop-cons s (i + k) 0 h ∙ ap (λ (n : ℕ). get_or s (i + k) 0 ∷ drop n s) (sym (add-suc i k))

pub crc-next8 : (r v : ℕ) (s : List ℕ) (i : ℕ) → i + 8 ≤ length s
    → v ≡ crc_from r (get_or s i 0 ∷ get_or s (i + 1) 0 ∷ get_or s (i + 2) 0 ∷ get_or s (i + 3) 0 ∷ get_or s (i + 4) 0 ∷ get_or s (i + 5) 0 ∷ get_or s (i + 6) 0 ∷ get_or s (i + 7) 0 ∷ [])
    → crc_from v (drop (i + 8) s) ≡ crc_from r (drop i s)
unfolding crc_from
crc-next8 r v s i h e =
    let g : ℕ → ℕ = λ k. get_or s (i + k) 0 in
    ap (λ (x : ℕ). crc_from x (drop (i + 8) s)) e
    ∙ ap (crc_from r)
    (sym
    (drop-cons s i 0 (omega arith) ∙ ap (λ (n : ℕ). get_or s i 0 ∷ drop n s) (sym (add-one i))
    ∙ ap (λ (l : List ℕ). get_or s i 0 ∷ l)
    (drop-one s i 1 (omega arith)
    ∙ ap (λ (l : List ℕ). g 1 ∷ l)
    (drop-one s i 2 (omega arith)
    ∙ ap (λ (l : List ℕ). g 2 ∷ l)
    (drop-one s i 3 (omega arith)
    ∙ ap (λ (l : List ℕ). g 3 ∷ l)
    (drop-one s i 4 (omega arith)
    ∙ ap (λ (l : List ℕ). g 4 ∷ l)
    (drop-one s i 5 (omega arith)
    ∙ ap (λ (l : List ℕ). g 5 ∷ l) (drop-one s i 6 (omega arith) ∙ ap (λ (l : List ℕ). g 6 ∷ l) (drop-one s i 7 (omega arith))))))))))
