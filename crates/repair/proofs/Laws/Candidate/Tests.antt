-- The tests of a projected candidate, the first two in one value. Assumes nothing.
use mathlib.Core.Path.{◌≡◌}
use mathlib.Core.Bool.{Bool, true, false, ◌&&◌}

-- both hold, so the third decides
pub third : (a b : Bool) {c v r : Bool} → v ≡ (a && b) → v ≡ true → r ≡ c → r ≡ (a && (b && c))
third true true e t q = q
third true false e t q = cc
third false b e t q = cc

-- one of them fails
pub no_third : (a b c : Bool) {v : Bool} → v ≡ (a && b) → v ≡ false → v ≡ (a && (b && c))
no_third true true c e t = cc
no_third true false c e t = e
no_third false b c e t = e
