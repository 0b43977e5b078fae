-- Words and floats in lent slices, and numbers in turn. A slice is the list of its elements: a word is a number below 2^32, a float a value of
-- `lib.Ieee`. Reads past the end give zero, so that every function of the crate is total. Assumes nothing.
use Rattle.std.specs.Prelude.{ℕ, zero, suc, ◌+◌, ◌*◌, Bool, cond, ◌&&◌, List, [], ◌∷◌, ◌++◌, length, drop, replicate, nat_le, slice_index, slice_index_or, Float}
use Rattle.std.proofs.Math.Seq.{paste}
use Rattle.geometry.specs.declared.point.Point.{Point}
use Rattle.geometry.specs.Float.{zero64}
use Rattle.mesh.specs.declared.vertex.Points.{Points}

-- the word at i, 0 past the end
abbrev pub word_at : List ℕ → ℕ → ℕ
word_at s i = slice_index s i

-- the float at i, +0.0 past the end
abbrev pub float_at : List Float → ℕ → Float
float_at s i = slice_index_or s i zero64

-- n words, all 0
abbrev pub zero_words : ℕ → List ℕ
zero_words n = replicate n 0

-- n floats, all +0.0
abbrev pub zero_floats : ℕ → List Float
zero_floats n = replicate n zero64

-- whether the n places from i on lie inside m places
unfoldable pub inside : ℕ → ℕ → ℕ → Bool
inside i n m = nat_le (i + n) m

-- d with the n elements of x from i on put at k; d as it is where x or d is too short
unfoldable pub copied : {A : Type 0} → List A → ℕ → List A → ℕ → ℕ → List A
copied x i d k n = cond (inside i n (length x) && inside k n (length d)) (paste d k (drop i x) n) d

-- the point 0 0 0
abbrev pub zero_point : Point
zero_point = record { x = zero64; y = zero64; z = zero64 }

-- the point of the vertex v, 0 0 0 past the last vertex
abbrev pub point_at : List Point → ℕ → Point
point_at ps v = slice_index_or ps v zero_point

-- the point of the vertex v in a list of floats, three floats each; a float past the end counts as +0.0
unfoldable pub point_in : List Float → ℕ → Point
point_in s v = record { x = float_at s (3 * v); y = float_at s (3 * v + 1); z = float_at s (3 * v + 2) }

-- the first n points of a list of floats, three floats each
unfoldable pub points_of : ℕ → List Float → List Point
points_of zero s = []
points_of (suc n) s = record { x = float_at s 0; y = float_at s 1; z = float_at s 2 } ∷ points_of n (drop 3 s)

-- the points of the vertices
abbrev pub points_in : Points → List Point
points_in p = points_of p.count p.floats.now

-- ---- numbers

-- the n numbers from k on
unfoldable pub numbers : ℕ → ℕ → List ℕ
numbers k zero = []
numbers k (suc n) = k ∷ numbers (k + 1) n

-- ---- rows

-- the words of the rows
unfoldable pub flat : List (List ℕ) → List ℕ
flat [] = []
flat (r ∷ rs) = r ++ flat rs
