-- A line of text, put together from parts and held against the line that should come out: each part moves the place up to which the two are the same.
use Rattle.std.specs.Prelude.{ℕ, zero, suc, ◌+◌, ◌/◌, ◌%◌, Bool, true, false, List, [], ◌∷◌, ◌++◌, length, take, drop, eqb, ltb, leb}
use Rattle.scans.specs.Scan.{pick, fold_from}
use Rattle.pages.specs.Reading.{astray, plus_of}

-- the same bytes
abbrev pub is_same : List ℕ → List ℕ → Bool
is_same [] [] = true
is_same [] (y ∷ ys) = false
is_same (x ∷ xs) [] = false
is_same (x ∷ xs) (y ∷ ys) = pick (eqb x y) (is_same xs ys) false

-- the part s where it should stand, from `at` on: behind it, or astray
unfoldable pub said_at : List ℕ → ℕ → List ℕ → ℕ
said_at should at s = pick (is_same (take (length s) (drop at should)) s) (plus_of at (length s)) astray

-- ---- numbers

-- a digit from 0 to 9 and a to f, or a ? where it is none
unfoldable pub letter_of : ℕ → ℕ
letter_of n = pick (ltb n 10) (48 + n) (pick (ltb n 16) (87 + n) 63)

-- n in base 10, of at most so many digits
unfoldable pub decimal_in : ℕ → ℕ → List ℕ
decimal_in zero n = []
decimal_in (suc more) n = pick (ltb n 10) (letter_of n ∷ []) (decimal_in more (n / 10) ++ (letter_of (n % 10) ∷ []))

-- of 64 bits
unfoldable pub decimal_of : ℕ → List ℕ
decimal_of n = decimal_in 20 n

-- a name, and a number behind it
unfoldable pub named_at : List ℕ → ℕ → List ℕ → ℕ → ℕ
named_at should at name n = said_at should (said_at should at name) (decimal_of n)

-- ---- packets

-- a byte in base 16; every fourth has a space (32) before it
unfoldable pub byte_text : ℕ → List ℕ
byte_text b = letter_of (b / 16) ∷ letter_of (b % 16) ∷ []

unfoldable pub spaced_at : List ℕ → ℕ → ℕ → ℕ → ℕ
spaced_at should at i b = pick (eqb (i % 4) 0) (said_at should (said_at should at (32 ∷ [])) (byte_text b)) (said_at should at (byte_text b))

unfoldable pub rows_at : List ℕ → ℕ → List ℕ → ℕ
rows_at should at s = fold_from (spaced_at should) at 0 s

-- the bytes of a packet that are shown, of a longer one its first
abbrev pub page_shown : ℕ
page_shown = 160

-- of a longer one then " .. of " and its length
unfoldable pub packet_at : List ℕ → ℕ → List ℕ → ℕ
packet_at should at s =
    pick (leb (length s) page_shown) (rows_at should at s)
    (said_at should (said_at should (rows_at should at (take page_shown s)) (32 ∷ 46 ∷ 46 ∷ 32 ∷ 111 ∷ 102 ∷ 32 ∷ [])) (decimal_of (length s)))

-- a number of document 01 behind "no ", or "ok"
unfoldable pub answer_at : List ℕ → ℕ → ℕ → ℕ
answer_at should at number = pick (eqb number 0) (said_at should at (111 ∷ 107 ∷ [])) (named_at should at (110 ∷ 111 ∷ 32 ∷ []) number)
