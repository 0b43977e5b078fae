-- A value and its two words. Assumes nothing.
use Rattle.std.proofs.Common.{◌≡◌, ℕ, ◌+◌, ◌*◌, ◌/◌, ◌%◌, ◌^◌, ◌<◌, Bool, false, not, T, sym, ap, ◌∙◌, subst, arith}
use native.Mathlib.Nat.{mod-add-div}
use lib.Ieee.{Float, binary64, fits, to_bits, of_bits, nan_bits}
use lib.Ieee.Bits.{of_bits-to_bits, to_bits-of_bits, to_bits-lt, nan_bits_is}
use Rattle.geometry.specs.Word.{from_words, low_word, high_word}

-- the words of x make x
pub words-value : (x : Float) → T (fits binary64 x) → from_words (low_word x) (high_word x) ≡ x
words-value x f = ap (of_bits binary64) (mod-add-div (to_bits binary64 x) (2 ^ 32)) ∙ of_bits-to_bits binary64 x f

pub high_lt : (x : Float) → T (fits binary64 x) → high_word x < 2 ^ 32
high_lt x f = half (to_bits binary64 x) (to_bits-lt binary64 x f)
  where
    half : (n : ℕ) → n < 2 ^ 64 → n / 2 ^ 32 < 2 ^ 32
    half n h = omega arith

-- what two words make has those words, but for a NaN
module _ (low high : ℕ) (low-lt : low < 2 ^ 32) (top_lt : high < 2 ^ 32) (number : nan_bits binary64 (low + 2 ^ 32 * high) ≡ false) where
  bits_is : to_bits binary64 (from_words low high) ≡ low + 2 ^ 32 * high
  bits_is = to_bits-of_bits binary64 (low + 2 ^ 32 * high) (under low high low-lt top_lt) (subst (λ (b : Bool). T (not b)) (sym (sym (nan_bits_is binary64 (low + 2 ^ 32 * high)) ∙ number)) tt)
    where
      under : (a b : ℕ) → a < 2 ^ 32 → b < 2 ^ 32 → a + 2 ^ 32 * b < 2 ^ 64
      under a b h k = omega arith

  pub low-back : low_word (from_words low high) ≡ low
  low-back = ap (λ (n : ℕ). n % 2 ^ 32) bits_is ∙ cut low high low-lt
    where
      cut : (a b : ℕ) → a < 2 ^ 32 → (a + 2 ^ 32 * b) % 2 ^ 32 ≡ a
      cut a b h = omega arith

  pub high-back : high_word (from_words low high) ≡ high
  high-back = ap (λ (n : ℕ). n / 2 ^ 32) bits_is ∙ cut low high low-lt
    where
      cut : (a b : ℕ) → a < 2 ^ 32 → (a + 2 ^ 32 * b) / 2 ^ 32 ≡ b
      cut a b h = omega arith
