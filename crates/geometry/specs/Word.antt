-- An f64 as words (document 01, "Block": "An f64 is two words, low first"). `to_bits` and `of_bits` of
-- `lib.Ieee` are IEEE 754's interchange format (3.4), with one NaN, whose pattern is 0x7FF8000000000000. Definitions only.
use Rattle.std.specs.Prelude.{ℕ, ◌+◌, ◌*◌, ◌/◌, ◌%◌, ◌^◌, from_bits, to_bits, Float}
use Rattle.std.specs.Float.{binary64}

-- "An f64 is two words, low first"
abbrev pub from_words : ℕ → ℕ → Float
from_words low high = from_bits binary64 (low + 2 ^ 32 * high)

-- the low word of x's pattern
abbrev pub low_word : Float → ℕ
low_word x = to_bits binary64 x % 2 ^ 32

-- the high word of x's pattern
abbrev pub high_word : Float → ℕ
high_word x = to_bits binary64 x / 2 ^ 32
