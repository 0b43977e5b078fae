-- What a pass, intake or the table asks of the points of an element or of an edge (document 01, "Coordinate, determinant, score"). Every
-- other definition asks it here. A vertex past the last has the point 0 0 0. Definitions only.
use Rattle.std.specs.Prelude.{ℕ, Bool, cond, List, map, length, Float, Option, Some, None}
use Rattle.std.specs.Float.Ieee.{lt, le}
use Rattle.geometry.specs.declared.point.Point.{Point}
use Rattle.geometry.specs.Float.{◌-₆₄◌, ◌*₆₄◌, zero64, absolute, total}
use Rattle.geometry.specs.Literals.{e_10}
use Rattle.geometry.specs.Point.{difference, norm, determinant}
use Rattle.geometry.specs.Score.{score, bad, lowest}
use Rattle.mesh.specs.declared.element.Pair.{Pair}
use Rattle.mesh.specs.declared.element.Tet.{Tet}
use Rattle.mesh.specs.Words.{point_at}
use Rattle.mesh.specs.Complex.{keep}

-- What `improve` and `flip` ask of the points: the length of an edge; of an element whether its determinant is above 0, or below 0, and
-- its score; whether two lists of elements fill the same volume.
pub record Measure : Type 0 where
  pub length : Pair → Float
  pub above : Tet → Bool
  pub below : Tet → Bool
  pub score : Tet → Float
  pub same_volume : List Tet → List Tet → Bool

-- the determinant and the score of an element, from its vertices in the order stored
abbrev pub determinant_of : List Point → Tet → Float
determinant_of ps t = determinant (point_at ps t.a) (point_at ps t.b) (point_at ps t.c) (point_at ps t.d)

abbrev pub score_of : List Point → Tet → Float
score_of ps t = score (point_at ps t.a) (point_at ps t.b) (point_at ps t.c) (point_at ps t.d)

-- the root of an edge's dot product with itself
abbrev pub length_of : List Point → Pair → Float
length_of ps e = norm (difference (point_at ps e.a) (point_at ps e.b))

-- the sum of the determinants, left to right
abbrev pub volume_of : List Point → List Tet → Float
volume_of ps ts = total (map (determinant_of ps) ts)

-- those of the f64 points; two volumes are the same within 1e-10 of the old one
abbrev pub measure : List Point → Measure
measure ps = record {
  length = length_of ps;
  above = λ t. lt zero64 (determinant_of ps t);
  below = λ t. lt (determinant_of ps t) zero64;
  score = score_of ps;
  same_volume = λ old new. le (absolute (volume_of ps new -₆₄ volume_of ps old)) (volume_of ps old *₆₄ e_10);
}

-- "A score below 0.1 is bad"
abbrev pub is_bad : Measure → Tet → Bool
is_bad μ t = bad (μ.score t)

-- how many elements are bad
abbrev pub bad_count : Measure → List Tet → ℕ
bad_count μ ts = length (keep (is_bad μ) ts)

-- the lowest score of the elements: "With no elements the lowest score is 1"
abbrev pub lowest_of : Measure → List Tet → Float
lowest_of μ ts = lowest (map μ.score ts)

-- ---- an element measured at once

-- the score of four points where their determinant is above 0
abbrev pub measured_at : Point → Point → Point → Point → Option Float
measured_at a b c d = cond (lt zero64 (determinant a b c d)) (Some (score a b c d)) None

-- the same of the points of an element
abbrev pub measured_of : List Point → Tet → Option Float
measured_of ps t = measured_at (point_at ps t.a) (point_at ps t.b) (point_at ps t.c) (point_at ps t.d)
