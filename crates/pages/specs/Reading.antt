-- The words, numbers and bytes of a line, as bytes of ASCII.
use Rattle.std.specs.Prelude.{ℕ, zero, suc, ◌+◌, ◌-◌, ◌*◌, ◌/◌, ◌%◌, Bool, true, false, List, [], ◌∷◌, length, take, drop, get_or, replicate, eqb, ltb}
use Rattle.std.specs.Bool.{beq}
use Rattle.octets.specs.Bytes.{laid}
use Rattle.scans.specs.Scan.{pick}

-- past the end of every line: a place there, or behind it, stays where it is
abbrev pub astray : ℕ
astray = 1000000

unfoldable pub plus_of : ℕ → ℕ → ℕ
plus_of a b = pick (ltb a astray) (pick (ltb b astray) (a + b) a) a

-- of the bytes from place i on, where the first stands that is c, or that is not; else the end
abbrev pub seek_from : Bool → ℕ → ℕ → ℕ → List ℕ → ℕ
seek_from is c end i [] = end
seek_from is c end i (x ∷ xs) = pick (beq (eqb x c) is) i (seek_from is c end (i + 1) xs)

unfoldable pub sought : Bool → List ℕ → ℕ → ℕ → ℕ
sought is s from c = seek_from is c (length s) from (drop from s)

abbrev pub find_in : List ℕ → ℕ → ℕ → ℕ
find_in s from c = sought true s from c

abbrev pub past_in : List ℕ → ℕ → ℕ → ℕ
past_in s from c = sought false s from c

-- the bytes from `from` to `to`
abbrev pub between_of : List ℕ → ℕ → ℕ → List ℕ
between_of s from to = take (to - from) (drop from s)

-- the line that begins at a place, up to the line end (10), and where the next begins
unfoldable pub line_at : List ℕ → ℕ → List ℕ
line_at s at = between_of s at (find_in s at 10)

unfoldable pub text_line_after : List ℕ → ℕ → ℕ
text_line_after s at =
    pick (ltb at (find_in s at 10)) (pick (ltb (find_in s at 10) (length s)) (find_in s at 10 + 1) (find_in s at 10))
    (pick (ltb at (length s)) (at + 1) at)

-- a line that says nothing that is done: it is empty, or begins with a - (45)
unfoldable pub is_heading : List ℕ → Bool
is_heading line = pick (eqb (length line) 0) true (eqb (get_or line 0 0) 45)

-- what a line says is done, up to the colon (58); and what should come of it, behind the colon and a space
unfoldable pub deed_of : List ℕ → List ℕ
deed_of line = between_of line 0 (find_in line 0 58)

unfoldable pub should_of : List ℕ → List ℕ
should_of line = between_of line (plus_of (find_in line 0 58) 2) (length line)

-- ---- words, with spaces (32) between them

-- where the first word begins, and where it ends
abbrev pub word_from : List ℕ → ℕ
word_from s = past_in s 0 32

abbrev pub word_to : List ℕ → ℕ
word_to s = find_in s (word_from s) 32

unfoldable pub first_of : List ℕ → List ℕ
first_of s = between_of s (word_from s) (word_to s)

-- what follows it
unfoldable pub rest_of : List ℕ → List ℕ
rest_of s = between_of s (past_in s (word_to s) 32) (length s)

abbrev pub past_words : ℕ → List ℕ → List ℕ
past_words zero s = s
past_words (suc k) s = past_words k (rest_of s)

-- the word behind k others, or behind 7 where k is more
unfoldable pub text_word_of : List ℕ → ℕ → List ℕ
text_word_of s k = first_of (past_words (pick (ltb k 7) k 7) s)

-- ---- numbers

-- a digit from 0 to 9 or a to f, or 16 where it is none
unfoldable pub digit_of : ℕ → ℕ
digit_of b = pick (ltb b 48) 16 (pick (ltb b 58) (b - 48) (pick (ltb b 97) 16 (pick (ltb b 103) (b - 87) 16)))

-- one digit more; what is no digit is passed over, and a number past 32 bits grows no more
unfoldable pub grown_by : ℕ → Bool → ℕ → ℕ
grown_by n hex d = pick (ltb 4294967295 n) n (pick (ltb 15 d) n (pick hex (n * 16 + d) (n * 10 + d)))

abbrev pub text_value_in : Bool → ℕ → List ℕ → ℕ
text_value_in hex n [] = n
text_value_in hex n (x ∷ xs) = text_value_in hex (grown_by n hex (digit_of x)) xs

-- the number that a word is: with an x (120) before it in base 16, else in base 10
unfoldable pub number_of : List ℕ → ℕ
number_of w = pick (eqb (get_or w 0 0) 120) (text_value_in true 0 (drop 1 w)) (text_value_in false 0 (drop 0 w))

unfoldable pub text_value_of : List ℕ → ℕ → ℕ
text_value_of s k = number_of (text_word_of s k)

-- the same where it is below `limit`, else 0
unfoldable pub value_below : ℕ → List ℕ → ℕ → ℕ
value_below limit s k = pick (ltb (text_value_of s k) limit) (text_value_of s k) 0

-- ---- bytes

-- a buffer, and the half byte of it that comes next
pub record Spelling : Type 0 where
  pub out : List ℕ
  pub half : ℕ

-- the first half of a byte, and the second behind it
unfoldable pub high_of : ℕ → ℕ
high_of d = pick (ltb d 16) (d * 16) 0

unfoldable pub joined_of : ℕ → ℕ → ℕ
joined_of h d = pick (ltb h 241) (pick (ltb d 16) (h + d) h) h

unfoldable pub half_put : Spelling → ℕ → Spelling
half_put w d = record {
  out = laid w.out (w.half / 2) (pick (eqb (w.half % 2) 0) (high_of d) (joined_of (get_or w.out (w.half / 2) 0) d) ∷ []);
  half = plus_of w.half 1;
}

-- n bytes, all of them a (97)
unfoldable pub many_put : Spelling → ℕ → Spelling
many_put w n = record { out = laid w.out (w.half / 2) (replicate n 97); half = plus_of w.half (n + n) }

-- a digit is half a byte, z (122) is 16 bytes and Z (90) 256 bytes, all of them a; everything else is passed over
unfoldable pub sign_put : Spelling → ℕ → Spelling
sign_put w c =
    pick (eqb c 122) (many_put w 16) (pick (eqb c 90) (many_put w 256) (pick (ltb (digit_of c) 16) (half_put w (digit_of c)) w))

-- the bytes that a text spells
abbrev pub spelt : Spelling → List ℕ → Spelling
spelt w [] = w
spelt w (c ∷ cs) = spelt (sign_put w c) cs

-- the same, from `at` of `out` on
unfoldable pub spelt_at : List ℕ → List ℕ → ℕ → Spelling
spelt_at s out at = spelt (record { out = out; half = plus_of at at }) s
