-- That the comparison of the library is ours, and that the digits of the kit are a number's. Assumes nothing.
use Rattle.std.specs.Prelude.{ℕ, zero, suc, ◌-◌, ◌*◌, ◌/◌, ◌%◌, ◌^◌, ◌<◌, ◌≤◌, ◌≡◌, refl, Bool, true, false, ◌&&◌, List, [], ◌∷◌, length, eqb}
use Rattle.std.proofs.Common.{ap, arith, lt-ltb, le-ltb}
use Rattle.std.proofs.Math.Nat.{pow-succ'}
use Rattle.std.proofs.Math.Decide.{dec_le}
use Rattle.std.specs.Cmp.Lexicographic.{pointwise}
use Rattle.io.specs.Digits.{hex_digit_ascii, last_digits, IsDigitCount}
use Rattle.scans.specs.Scan.{pick}
use Rattle.pages.specs.Page.{is_same, letter_of, decimal_in, decimal_of}

-- ---- two texts

-- "the same bytes", in the words of the library
pub same-is : (s t : List ℕ) → pointwise eqb s t ≡ is_same s t
same-is [] [] = refl
same-is [] (y ∷ ys) = refl
same-is (x ∷ xs) [] = refl
same-is (x ∷ xs) (y ∷ ys) = rw (same-is xs ys) (go (eqb x y))
  where
    go : (t : Bool) → (t && is_same xs ys) ≡ pick t (is_same xs ys) false
    go true = refl
    go false = refl

-- those of other lengths are not the same
pub same-long : (s t : List ℕ) → (length s ≡ length t → ⊥) → is_same s t ≡ false
same-long [] [] n = absurd (n refl)
same-long [] (y ∷ ys) n = refl
same-long (x ∷ xs) [] n = refl
same-long (x ∷ xs) (y ∷ ys) n = rw (same-long xs ys (λ e. n (ap suc e))) (go (eqb x y))
  where
    go : (t : _) → pick t false false ≡ false
    go true = refl
    go false = refl

-- ---- digits

glyph-letter : (d : ℕ) → d < 10 → hex_digit_ascii d ≡ letter_of d
unfolding letter_of
glyph-letter d h = rw (lt-ltb d 10 h)

pow-some : (k : ℕ) → 1 ≤ 10 ^ k
pow-some zero = omega arith
pow-some (suc k) = omega (arith, pow-succ' 10 k, pow-some k)

fewest-decimal : (k more n : ℕ) → IsDigitCount 10 1 n k → k ≤ more → last_digits 10 k n ≡ decimal_in more n
unfolding decimal_in
fewest-decimal zero more n w h = absurd (omega (arith, w.0))
fewest-decimal (suc k) zero n w h = absurd (omega arith)
fewest-decimal (suc zero) (suc more) n w h =
    let l : n < 10 = omega (arith, w.1) in
    let z : n % 10 ≡ n = omega arith in
    rw (lt-ltb n 10 l, z, glyph-letter n l)
fewest-decimal (suc (suc k)) (suc more) n w h =
    let a : 10 ^ suc (suc k) ≡ 10 * 10 ^ suc k = pow-succ' 10 (suc k) in
    let b : 10 ^ suc k ≡ 10 * 10 ^ k = pow-succ' 10 k in
    let x : suc (suc k) - 1 ≡ suc k = omega arith in
    let y : suc k - 1 ≡ k = omega arith in
    let c : 10 ^ suc k ≤ n = rw x at (w.2 (omega arith)) in
    let l : 10 ≤ n = omega (arith, b, c, pow-some k) in
    let m : n / 10 < 10 ^ suc k = omega (arith, a, w.1) in
    let o : 10 ^ (suc k - 1) ≤ n / 10 = rw y (omega (arith, b, c)) in
    rw (le-ltb n 10 l, fewest-decimal (suc k) more (n / 10) (omega arith, m, λ q. o) (omega arith), glyph-letter (n % 10) (omega arith))

pow-rises : (a b : ℕ) → a ≤ b → 10 ^ a ≤ 10 ^ b
pow-rises zero b h = pow-some b
pow-rises (suc a) zero h = absurd (omega arith)
pow-rises (suc a) (suc b) h = omega (arith, pow-succ' 10 a, pow-succ' 10 b, pow-rises a b (omega arith))

-- the text of the kit is that of the number
pub decimal-is : (k n : ℕ) → IsDigitCount 10 1 n k → n < 2 ^ 64 → last_digits 10 k n ≡ decimal_of n
unfolding decimal_of
decimal-is k n w l = fewest-decimal k 20 n w (go (dec_le k 20))
  where
    go : Dec (k ≤ 20) → k ≤ 20
    go (yes h) = h
    go (no h) = absurd (omega (arith, l, w.2 (omega arith), pow-rises 20 (k - 1) (omega arith)))
