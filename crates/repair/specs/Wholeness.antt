-- Wholeness: demand 3 of the tender as one statement about every list of calls, in the words of the tender and of document 01, "Runs of
-- passes". `Wholeness` at the end is the statement; what stands above it are its parts. Definitions only.
use Rattle.std.specs.Prelude.{◌≡◌, true, ℕ, ◌+◌, ◌*◌, ◌^◌, ◌≤◌, ◌<◌, ℤ, Float}
use mathlib.Core.List.{List, [], ◌∷◌, map, Memᴰ}
use Rattle.std.specs.Float.{binary64}
use Rattle.std.specs.Float.Ieee.{lt, fits}
use Rattle.geometry.specs.Float.{zero64, smaller}
use Rattle.geometry.specs.Literals.{tenth}
use Rattle.geometry.specs.Units.{units_of, NotNegative}
use Rattle.mesh.specs.declared.element.Triple.{Triple}
use Rattle.mesh.specs.declared.element.Tet.{Tet}
use Rattle.mesh.specs.Complex.{alternating}
use Rattle.mesh.specs.Element.{vertices_of, key_of, parity_of}
use Rattle.mesh.specs.Boundary.{all_faces, with_key, OneOrTwo}
use Rattle.mesh.specs.Group.{rank_of}
use Rattle.mesh.specs.declared.intake.Lengths.{Lengths}
use Rattle.mesh.specs.Tests.{every}
use Rattle.mesh.specs.Intake.{well_numbered, all_different, intake}
use Rattle.mesh.specs.Measure.{measure, determinant_of, score_of, lowest_of}
use Rattle.repair.specs.Step.{State, Call, Pass, mesh_of, given, number_of, step, run, improve_counts}

-- ---- "any mesh that passes intake and whose surface triples are its boundary"

-- "for some box, fields and slices none of the table's intake conditions applies, 16 and 17 included"
abbrev pub PassesIntake : State → Type 0
PassesIntake s = (c : Call) × (l : Lengths) × (intake (given l c s) ≡ 0)

-- the one of a list of one, and none of any other list
abbrev pub single : List ℕ → List ℕ
single [] = []
single (x ∷ []) = x ∷ []
single (x ∷ y ∷ ys) = []

-- "in any order, they are one triple for each key that only one element has, with the parity of that element's face, and no others": for
-- each key, the parities of the triples that have it
abbrev pub IsBoundary : List Tet → List Triple → Type 0
IsBoundary ts fs = (k : Triple) → map parity_of (with_key k fs) ≡ single (map parity_of (with_key k (all_faces ts)))

abbrev pub Closed : State → Type 0
Closed s = IsBoundary (mesh_of s).elements (mesh_of s).surface

-- ---- "If before each `improve` that gives a count no direction is periodic and no two vertices have the same rank in all three directions"

pub record Apart (c : Call) (s : State) : Type 0 where
  pub straight : c.options.periodic ≡ 0
  pub ranks : (v w : ℕ) → v < s.sizes.vertices → w < s.sizes.vertices
      → rank_of c.options (mesh_of s).parameters v ≡ rank_of c.options (mesh_of s).parameters w → v ≡ w

abbrev pub ApartAlong : List Call → State → Type 0
ApartAlong [] s = Unit {0}
ApartAlong (c ∷ cs) s = (c.pass ≡ Pass.improve → number_of (step c s).0 ≡ 0 → Apart c s) × ApartAlong cs (step c s).1

-- ---- "then after the list"

-- "vertices minus edges plus triangles minus elements, each counted once and only where an element uses it"
abbrev pub alternating_of : State → ℤ
alternating_of s = alternating s.sizes.vertices (map vertices_of (mesh_of s).elements)

-- finite, not negative and a whole number of units of 2 ^ -1074, as `units_of` takes it
abbrev pub Exact : Float → Type 0
Exact x = (fits binary64 x ≡ true) × NotNegative x

-- the smaller of 0.1 and the lowest score
abbrev pub floor_of : State → Float
floor_of s = smaller tenth (lowest_of (measure (mesh_of s).points) (mesh_of s).elements)

pub record Whole (start end : State) (count : ℕ) : Type 0 where
  -- the table's 13 and 14 do not apply: each element has four different vertices below the vertex count, and no two have the same four. So
  -- `alternating` counts every vertex, edge and triangle that an element uses, and each element once
  pub numbered : every (well_numbered end.sizes.vertices) (mesh_of end).elements ≡ true
  pub different : all_different (mesh_of end).elements ≡ true
  -- "equals that number at the start"
  pub alternates : alternating_of end ≡ alternating_of start
  -- "every triangle lies in one element, or in two with opposite parity"
  pub triangles : (f : Triple) → Memᴰ f (all_faces (mesh_of end).elements) → OneOrTwo (with_key (key_of f) (all_faces (mesh_of end).elements))
  -- "every determinant is above 0"
  pub determinants : (t : Tet) → Memᴰ t (mesh_of end).elements → lt zero64 (determinant_of (mesh_of end).points t) ≡ true
  -- "every score is at least the smaller of 0.1 and the lowest score at the start, less 2 × 10^-12 times the sum of the counts": "exact
  -- values .. in units of 2^-1074 and taken 10^12-fold"
  pub scores : (t : Tet) → Memᴰ t (mesh_of end).elements
      → Exact (score_of (mesh_of end).points t)
      × (10 ^ 12 * units_of (floor_of start) ≤ 10 ^ 12 * units_of (score_of (mesh_of end).points t) + 2 * 2 ^ 1074 * count)

-- ---- the statement

abbrev pub Wholeness : Type 0
Wholeness = (calls : List Call) (s : State) → PassesIntake s → Closed s → ApartAlong calls s → Whole s (run calls s) (improve_counts calls s)

-- beside it: the surface triples stay the boundary
abbrev pub StaysClosed : Type 0
StaysClosed = (calls : List Call) (s : State) → PassesIntake s → Closed s → Closed (run calls s)
