-- An f64 above 0 as a number that keeps the order. For contracts of private functions and for proofs; definitions only.
use Rattle.std.specs.Prelude.{ℕ, ◌-◌, ◌^◌, cond, is_nan, to_bits, Float}
use Rattle.std.specs.Float.{binary64}
use Rattle.std.specs.Float.Ieee.{lt}
use Rattle.geometry.specs.Float.{zero64}

-- the bits of an x above 0, 0 for what is not above 0, and above all others a NaN
abbrev pub order_bits : Float → ℕ
order_bits x = cond (lt zero64 x) (to_bits binary64 x) (cond (is_nan x) (2 ^ 64 - 1) 0)
