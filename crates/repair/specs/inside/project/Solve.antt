-- What the values and arrays of `project_candidate`'s code stand for in specs/Project.antt: the rows of the active fields, the matrix in
-- the corner of 8 rows of 9, the point of a step. For the contracts of private functions; definitions only.
use Rattle.std.specs.Prelude.{ℕ, ◌+◌, ◌<◌, ◌≡◌, cond, eqb, List, [], ◌∷◌, ◌++◌, map, Float, length, get_or, take, Option, Some, None}
use Rattle.geometry.specs.declared.point.Point.{Point}
use Rattle.geometry.specs.Float.{◌+₆₄◌, ◌*₆₄◌, zero64, total}
use Rattle.geometry.specs.Point.{dot}
use Rattle.repair.specs.declared.project.locked.Locked as locked
use Rattle.repair.specs.declared.project.rows.Row as row
use Rattle.repair.specs.Project.{Locked, Row, products, less_from, Step, ended, onward}

-- the code's directions
abbrev pub locks : locked.Locked → Locked
locks l = record { x = l.x; y = l.y; z = l.z }

-- the code's row
abbrev pub row_of : row.Row → Row
row_of r = record { value = r.value; gradient = r.gradient }

-- the code's rows
abbrev pub rows_of : List row.Row → List Row
rows_of rows = map row_of rows

-- 8 rows of 9
pub record Shaped (m : List (List Float)) : Type 0 where
  pub rows : length m ≡ 8
  pub columns : (i : ℕ) → i < 8 → length (get_or m i []) ≡ 9

-- the first n rows and n + 1 columns
abbrev pub window : ℕ → List (List Float) → List (List Float)
window n m = map (take (n + 1)) (take n m)

-- a row of the matrix of rs
abbrev pub entries : List Row → Row → List Float
entries rs r = map (λ s. dot r.gradient s.gradient) rs ++ (r.value ∷ [])

-- row i, which is r, without column k; row k, the pivot's, as it is
abbrev pub cleared_at : ℕ → ℕ → List Float → List Float → List Float
cleared_at k i row r = cond (eqb i k) r (less_from k (get_or r k zero64) r row)

-- s with g times t added, per direction
abbrev pub scaled_on : Point → Point → Float → Point
scaled_on s g t = record { x = s.x +₆₄ g.x *₆₄ t; y = s.y +₆₄ g.y *₆₄ t; z = s.z +₆₄ g.z *₆₄ t }

-- the gradients, each times its row's last entry, summed per direction
abbrev pub displacement : List Row → List (List Float) → Point
displacement rs m = record {
  x = total (products (λ g. g.x) rs m (length rs));
  y = total (products (λ g. g.y) rs m (length rs));
  z = total (products (λ g. g.z) rs m (length rs));
}

-- a step that hands on the point, if there is one, and else ends with none
abbrev pub step_of : Option Point → Step
step_of None = ended None
step_of (Some p) = onward p
