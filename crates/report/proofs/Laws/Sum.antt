-- Sums of words modulo 2^32, one word after the other. Assumes nothing.
use Rattle.std.proofs.Common.{◌≡◌, ℕ, ◌+◌, ◌%◌, ◌^◌, add-one}
use native.Mathlib.Nat.{mod-add-mod}
use Rattle.report.specs.Bytes.{word_in, sum_of}

-- one more word
pub sum_more : (s : _) (i n t w r : ℕ) → t ≡ sum_of s i n % 2 ^ 32 → w ≡ word_in s (i + n) → r ≡ (t + w) % 2 ^ 32 → r ≡ sum_of s i (n + 1) % 2 ^ 32
unfolding sum_of
sum_more s i n t w r e f g = rw add-one (rw g (rw e (rw f (mod-add-mod (sum_of s i n) (2 ^ 32) (word_in s (i + n))))))
