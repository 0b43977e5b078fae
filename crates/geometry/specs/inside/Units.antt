-- Bounds of values of binary64, in units of 2 ^ -1074. For contracts of private functions and for proofs; definitions only.
use Rattle.std.specs.Prelude.{ℕ, ◌+◌, ◌*◌, ◌^◌, ◌≤◌, Float}
use Rattle.std.specs.Float.{nan, inf, fin}
use Rattle.std.specs.Float.Ieee.{up, down}

-- x is finite and |x| is at most B units of 2 ^ -1074
abbrev pub Within : ℕ → Float → Type 0
Within B nan = ⊥
Within B (inf s) = ⊥
Within B (fin s m e) = m * up e * 2 ^ 1074 ≤ B * down e

-- x is finite and |x| ≤ 2 ^ k
abbrev pub within : ℕ → Float → Type 0
within k x = Within (2 ^ (1074 + k)) x
