-- What the contracts of the inner functions of src/root.rt say of whole numbers: a whole root, the whole number nearest to a root, and
-- half of a whole root, rounded up. y is the operand's digits with the exponent's lowest bit, from 2 ^ 53 to 2 ^ 55. For contracts of
-- private functions and for proofs; definitions only.
use Rattle.std.specs.Prelude.{◌≡◌, ℕ, ◌+◌, ◌*◌, ◌/◌, ◌^◌, ◌<◌, ◌≤◌}

-- r is the whole root of n
abbrev pub IsRoot : ℕ → ℕ → Type 0
IsRoot n r = (r * r ≤ n) × (n < (r + 1) * (r + 1))

-- q is the whole number nearest to the root of y * 2 ^ 51: that root is between q - 1 / 2 and q + 1 / 2
abbrev pub NearRoot : ℕ → ℕ → Type 0
NearRoot y q = (q * q < y * 2 ^ 51 + q) × (y * 2 ^ 51 ≤ q * q + q)

-- q is half of the whole root of y * 2 ^ 53, rounded up
abbrev pub Halved : ℕ → ℕ → Type 0
Halved y q = (s : ℕ) × IsRoot (y * 2 ^ 53) s × (q ≡ (s + 1) / 2)
