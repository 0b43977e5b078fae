-- The bits of the periodic flags. Assumes nothing.
use Rattle.std.proofs.Common.{◌≡◌, ℕ, ◌%◌, ◌^◌, ◌<◌, ◌≤◌, false, eqb, ap, lt_of_lt_of_le, pow_mono}
use native.Mathlib.Nat.{div-eq_of_lt}
use Rattle.geometry.specs.Bounds.{periodic_in}

-- a u32 has no bit from 32 on
pub none_above : (bits axis : ℕ) → bits < 2 ^ 32 → 32 ≤ axis → periodic_in bits axis ≡ false
none_above bits axis h k = ap (λ (n : ℕ). eqb (n % 2) 1) (div-eq_of_lt (lt_of_lt_of_le h (pow_mono k)))
