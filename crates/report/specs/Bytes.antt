-- Bytes as words and floats (document 01, "Block": "little-endian 32-bit words", "An f64 is two words, low first"), and rows in a list.
-- A byte past the end counts as 0. Definitions only.
use Rattle.std.specs.Prelude.{ℕ, zero, suc, ◌+◌, ◌*◌, cond, List, [], ◌++◌, ◌==◌, slice_index, Float}
use Rattle.geometry.specs.declared.point.Point.{Point}
use Rattle.geometry.specs.Word.{from_words}

-- the byte at i
abbrev pub byte_at : List ℕ → ℕ → ℕ
byte_at s i = slice_index s i

-- the word i: its lowest byte first
unfoldable pub word_in : List ℕ → ℕ → ℕ
word_in s i = byte_at s (4 * i) + 256 * byte_at s (4 * i + 1) + 65536 * byte_at s (4 * i + 2) + 16777216 * byte_at s (4 * i + 3)

-- the f64 in the words i and i + 1
unfoldable pub float_in : List ℕ → ℕ → Float
float_in s i = from_words (word_in s i) (word_in s (i + 1))

-- the three f64 from the word i on
unfoldable pub point_from : List ℕ → ℕ → Point
point_from s i = record { x = float_in s i; y = float_in s (i + 2); z = float_in s (i + 4) }

-- the sum of n words from the word i on
unfoldable pub sum_of : List ℕ → ℕ → ℕ → ℕ
sum_of s i zero = 0
sum_of s i (suc n) = sum_of s i n + word_in s (i + n)

-- the rows 0 to n - 1, one after the other
unfoldable pub listed : {A : Type 0} → (ℕ → List A) → ℕ → List A
listed row zero = []
listed row (suc n) = listed row n ++ row n

-- "the first failing gives the number": m unless it is 0, then n
abbrev pub first_of : ℕ → ℕ → ℕ
first_of m n = cond (m == 0) n m
