-- The score of an element (document 01, "Coordinate, determinant, score"): each operation rounded once, in the order written.
-- Definitions only.
use Rattle.std.specs.Prelude.{Bool, false, cond, List, [], ◌∷◌, negsuc, Float}
use Rattle.std.specs.Float.{fin}
use Rattle.std.specs.Float.Ieee.{eq, lt}
use Rattle.geometry.specs.declared.point.Point.{Point}
use Rattle.geometry.specs.Float.{◌+₆₄◌, ◌*₆₄◌, ◌/₆₄◌, zero64, one64, absolute, smaller}
use Rattle.geometry.specs.Literals.{tenth}
use Rattle.geometry.specs.Root.{sqrt}
use Rattle.geometry.specs.Point.{difference, dot, determinant}

-- "R the f64 root of 432": the law `r-is` shows that it is
abbrev pub R : Float
R = fin false 45705840067699 (negsuc 40)

-- the squared length of the edge from a to b
unfoldable pub squared_edge : Point → Point → Float
squared_edge a b = dot (difference b a) (difference b a)

-- "L is the sum of the six squared edges in the order 01 02 03 12 13 23"
unfoldable pub squared_edges : Point → Point → Point → Point → Float
unfolding squared_edge
squared_edges a b c d =
    squared_edge a b +₆₄ squared_edge a c +₆₄ squared_edge a d +₆₄ squared_edge b c +₆₄ squared_edge b d +₆₄ squared_edge c d

-- "The score is (R × |determinant|) / (L × root of L), .. and 0 where that divisor is 0"
unfoldable pub score : Point → Point → Point → Point → Float
unfolding determinant squared_edges sqrt
score a b c d =
    let L = squared_edges a b c d in
    let divisor = L *₆₄ sqrt L in
    cond (eq divisor zero64) zero64 ((R *₆₄ absolute (determinant a b c d)) /₆₄ divisor)

-- "A score below 0.1 is bad"
abbrev pub bad : Float → Bool
bad s = lt s tenth

-- the lowest of m and the scores, taken one after the other
unfoldable pub lowest_from : Float → List Float → Float
lowest_from m [] = m
lowest_from m (s ∷ scores) = lowest_from (smaller m s) scores

-- "With no elements the lowest score is 1": the lowest of 1 and the scores
unfoldable pub lowest : List Float → Float
unfolding lowest_from
lowest scores = lowest_from one64 scores
