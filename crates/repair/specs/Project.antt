-- `project_candidate` on values (document 01, "Field"; intersection.rs): a candidate is moved onto the zero sets of the active fields, by
-- at most 12 steps and only in the directions that are not locked. A step solves for the shortest displacement that brings the fields,
-- taken as linear, to 0. Each operation is rounded once. Definitions only.
use Rattle.std.specs.Prelude.{ℕ, zero, suc, ◌+◌, Bool, true, false, not, cond, ◌&&◌, ◌||◌, List, [], ◌∷◌, ◌++◌, map, eqb, Float, length, get_or, set, Option, Some, None}
use Rattle.std.specs.Float.{nan, inf, fin}
use Rattle.std.specs.Float.Ieee.{is_nan, lt, eq}
use Rattle.geometry.specs.declared.point.Point.{Point}
use Rattle.geometry.specs.declared.bounds.Bounds.{Bounds}
use Rattle.geometry.specs.declared.field.Field.{Field}
use Rattle.geometry.specs.Float.{◌-₆₄◌, ◌*₆₄◌, ◌/₆₄◌, zero64, absolute, larger, total}
use Rattle.geometry.specs.Literals.{e_12, 64epsilon}
use Rattle.geometry.specs.Point.{dot}
use Rattle.geometry.specs.Field.{value, gradient, magnitude}
use Rattle.mesh.specs.Words.{zero_point}
use Rattle.mesh.specs.Tests.{every}

-- neither a NaN nor an infinity
abbrev pub finite : Float → Bool
finite nan = false
finite (inf s) = false
finite (fin s m e) = true

abbrev pub finite_point : Point → Bool
finite_point p = finite p.x && (finite p.y && finite p.z)

-- ---- locked directions

pub record Locked : Type 0 where
  pub x : Bool
  pub y : Bool
  pub z : Bool

-- `locked`: the directions in which the origin lies on lo or hi
abbrev pub locked_of : Bounds → Point → Locked
locked_of b p = record {
  x = eq p.x b.lo.x || eq p.x b.hi.x;
  y = eq p.y b.lo.y || eq p.y b.hi.y;
  z = eq p.z b.lo.z || eq p.z b.hi.z;
}

-- p in the locked directions, q in the others
abbrev pub held : Locked → Point → Point → Point
held l p q = record { x = cond l.x p.x q.x; y = cond l.y p.y q.y; z = cond l.z p.z q.z }

-- `extent`: the largest hi - lo
abbrev pub extent : Bounds → Float
extent b =
    larger (larger (larger zero64 (b.hi.x -₆₄ b.lo.x)) (b.hi.y -₆₄ b.lo.y)) (b.hi.z -₆₄ b.lo.z)

-- ---- a field at a point: its value and its gradient, both divided by the gradient's magnitude

pub record Row : Type 0 where
  pub value : Float
  pub gradient : Point

-- magnitude finite and not 0, value finite
abbrev pub usable : Point → Field → Bool
usable p f =
    let m = magnitude (gradient f p) in
    finite m && (not (eq m zero64) && finite (value f p))

abbrev pub normalised : Point → Field → Row
normalised p f =
    let m = magnitude (gradient f p) in
    let g = gradient f p in
    record { value = value f p /₆₄ m; gradient = record { x = g.x /₆₄ m; y = g.y /₆₄ m; z = g.z /₆₄ m } }

-- the row with 0 for the locked parts of its gradient
abbrev pub freed : Locked → Row → Row
freed l r = record { value = r.value; gradient = held l zero_point r.gradient }

-- ---- "The matrix of active fields": a row for each, the products of its gradient with all of them, then its value

abbrev pub matrix : List Row → List (List Float)
matrix rs = map (λ r. map (λ s. dot r.gradient s.gradient) rs ++ (r.value ∷ [])) rs

-- the number in row i, column k
abbrev pub entry : List (List Float) → ℕ → ℕ → Float
entry m i k = get_or (get_or m i []) k zero64

-- |x| below |y|, a NaN being the largest
abbrev pub smaller_size : Float → Float → Bool
smaller_size x y = (is_nan y && not (is_nan x)) || lt (absolute x) (absolute y)

-- `pivot`: of row `best` and the n rows from i on, the last of those with the largest size in column k
unfoldable pub pivot : List (List Float) → ℕ → ℕ → ℕ → ℕ → ℕ
pivot m k best i zero = best
pivot m k best i (suc n) = pivot m k (cond (smaller_size (entry m i k) (entry m best k)) best i) (i + 1) n

-- rows i and j exchanged
abbrev pub exchanged : ℕ → ℕ → List (List Float) → List (List Float)
exchanged i j m = set (set m i (get_or m j [])) j (get_or m i [])

-- the row, its entries from column k on divided by d
unfoldable pub divide_from : ℕ → Float → List Float → List Float
divide_from k d [] = []
divide_from zero d (v ∷ vs) = (v /₆₄ d) ∷ divide_from zero d vs
divide_from (suc k) d (v ∷ vs) = v ∷ divide_from k d vs

-- the row, its entries from column k on less factor times those of the pivot's row
unfoldable pub less_from : ℕ → Float → List Float → List Float → List Float
less_from k factor [] ps = []
less_from k factor (v ∷ vs) [] = v ∷ vs
less_from zero factor (v ∷ vs) (p ∷ ps) = (v -₆₄ factor *₆₄ p) ∷ less_from zero factor vs ps
less_from (suc k) factor (v ∷ vs) (p ∷ ps) = v ∷ less_from k factor vs ps

-- the rows, numbered from i on, all but row k less their entry in column k times the pivot's row
unfoldable pub cleared : ℕ → ℕ → List Float → List (List Float) → List (List Float)
cleared k i row [] = []
cleared k i row (r ∷ rs) = cond (eqb i k) r (less_from k (get_or r k zero64) r row) ∷ cleared k (i + 1) row rs

-- the matrix with column k solved, its pivot in place: the pivot's row divided by it, the others cleared
abbrev pub solved_at : ℕ → List (List Float) → List (List Float)
solved_at k m =
    let row = divide_from k (entry m k k) (get_or m k []) in
    cleared k 0 row (set m k row)

-- the n columns from k on solved; none where a pivot is not finite or below 64 epsilon in size
unfoldable pub solved : ℕ → ℕ → List (List Float) → Option (List (List Float))
solved k zero m = Some m
solved k (suc n) m =
    let m₁ = exchanged k (pivot m k k (k + 1) n) m in
    let d = entry m₁ k k in
    cond (finite d && not (lt (absolute d) 64epsilon)) (solved (k + 1) n (solved_at k m₁)) None

-- ---- the steps

-- in one direction, each gradient's part times entry n of its row
unfoldable pub products : (Point → Float) → List Row → List (List Float) → ℕ → List Float
products part [] m n = []
products part (r ∷ rs) [] n = []
products part (r ∷ rs) (row ∷ m) n = (part r.gradient *₆₄ get_or row n zero64) ∷ products part rs m n

-- p less the gradients, each times its row's last entry, summed per direction
abbrev pub moved : List Row → List (List Float) → Point → Point
moved rs m p = record {
  x = p.x -₆₄ total (products (λ g. g.x) rs m (length rs));
  y = p.y -₆₄ total (products (λ g. g.y) rs m (length rs));
  z = p.z -₆₄ total (products (λ g. g.z) rs m (length rs));
}

-- the point found, or none
abbrev pub Projected : Type 0
Projected = Option Point

-- a step ends the work, or hands on a point
pub data Step : Type 0 where
  ended : Projected → Step
  onward : Point → Step

module _ (b : Bounds) (origin : Point) (active : List Field) where
  -- the point moved in the directions that are not locked, which must be finite; nothing without a solution
  abbrev pub onward_from : Point → List Row → Option (List (List Float)) → Step
  onward_from p rs None = ended None
  onward_from p rs (Some m) =
      let q = held (locked_of b origin) p (moved rs m p) in
      cond (finite_point q) (onward q) (ended None)

  -- one step: p is found where all values are 0, or all are below 1e-12 of the extent in size once they are divided
  unfoldable pub step : Point → Step
  step p =
      let rs = map (normalised p) active in
      let free = map (freed (locked_of b origin)) rs in
      cond (every (λ f. eq (value f p) zero64) active) (ended (Some p))
      (cond (not (every (usable p) active)) (ended None)
      (cond (every (λ r. lt (absolute r.value) (e_12 *₆₄ extent b)) rs) (ended (Some p))
      (onward_from p free (solved 0 (length free) (matrix free)))))

  -- at most n steps; nothing where the last of them hands on a point
  unfoldable pub steps : ℕ → Step → Projected
  steps zero (ended r) = r
  steps zero (onward p) = None
  steps (suc n) (ended r) = r
  steps (suc n) (onward p) = steps n (step p)

  -- the candidate, set back to the origin in the locked directions, after at most 12 steps
  unfoldable pub project : Point → Projected
  project candidate = steps 12 (onward (held (locked_of b origin) origin candidate))
