-- The f64 operations of document 01: "all are f64, each operation rounded once". Each is `lib.Ieee`'s at binary64, which works out
-- the exact result and rounds it to the nearest value, ties to even (IEEE 754, 4.3.1 and 5.4.1). Definitions only.
use Rattle.std.specs.Prelude.{true, false, cond, List, [], ◌∷◌, pos, Float}
use Rattle.std.specs.Float.{fin, binary64}
use Rattle.std.specs.Float.Ieee.{add, sub, mul, div, neg, lt}

infixl 65 ◌+₆₄◌
infixl 65 ◌-₆₄◌
infixl 70 ◌*₆₄◌
infixl 70 ◌/₆₄◌
-- IEEE 754, 5.4.1: addition
abbrev pub ◌+₆₄◌ : Float → Float → Float
◌+₆₄◌ = add binary64

-- IEEE 754, 5.4.1: subtraction
abbrev pub ◌-₆₄◌ : Float → Float → Float
◌-₆₄◌ = sub binary64

-- IEEE 754, 5.4.1: multiplication
abbrev pub ◌*₆₄◌ : Float → Float → Float
◌*₆₄◌ = mul binary64

-- IEEE 754, 5.4.1: division
abbrev pub ◌/₆₄◌ : Float → Float → Float
◌/₆₄◌ = div binary64

-- 0.0
abbrev pub zero64 : Float
zero64 = fin false 0 (pos 0)

-- 1.0
abbrev pub one64 : Float
one64 = fin false 1 (pos 0)

-- |x|. A zero keeps its sign: document 01, "the two zeros count as equal".
abbrev pub absolute : Float → Float
absolute x = cond (lt x zero64) (neg x) x

-- The smaller of a and b: b where b is below a, else a, so that a NaN for b is passed over.
abbrev pub smaller : Float → Float → Float
smaller a b = cond (lt b a) b a

-- The larger of a and b: b where b is above a, else a, so that a NaN for b is passed over.
abbrev pub larger : Float → Float → Float
larger a b = cond (lt a b) b a

-- s and the terms, added one after the other
unfoldable pub total_from : Float → List Float → Float
total_from s [] = s
total_from s (x ∷ xs) = total_from (s +₆₄ x) xs

-- "sums left to right": from -0, which changes no first term
unfoldable pub total : List Float → Float
unfolding total_from
total xs = total_from (fin true 0 (pos 0)) xs
