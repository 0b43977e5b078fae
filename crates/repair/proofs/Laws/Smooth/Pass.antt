-- `smooth` as a whole: elements, masks, surface and the number of vertices are as before, every determinant is above 0, and no score is
-- below the lowest one before. Assumes nothing.
use mathlib.Core.Path.{◌≡◌, refl, ap, subst, ◌∙◌}
use mathlib.Core.Bool.{true}
use mathlib.Core.List.{List, map, Memᴰ}
use mathlib.Core.Option.{Option}
use Prim.Native.Nat.{ℕ, ◌+◌, ◌*◌, ◌^◌, ◌≤◌}
use lib.Ieee.{lt}
use lib.ListN.{length}
use Rattle.geometry.specs.declared.bounds.Options.{Options}
use Rattle.geometry.specs.declared.field.Field.{Field}
use Rattle.geometry.specs.Float.{zero64, smaller}
use Rattle.geometry.specs.Literals.{tenth}
use Rattle.geometry.specs.Units.{units_of}
use Rattle.mesh.specs.declared.element.Tet.{Tet}
use Rattle.mesh.specs.Complex.{alternating}
use Rattle.mesh.specs.Element.{vertices_of}
use Rattle.mesh.specs.Group.{groups}
use Rattle.mesh.specs.Intake.{sized_point}
use Rattle.mesh.specs.Measure.{measure, determinant_of, score_of, lowest_of}
use Rattle.repair.specs.Mesh.{Mesh, made}
use Rattle.repair.specs.Wholeness.{Exact}
use Rattle.repair.specs.Smooth.{State, smooth_groups, smooth}
use Rattle.repair.proofs.Laws.Smooth.Scores.{AllNear, score-exact, lowest-exact, lowest-one, lowest-under, lowest-over, no-loss}
use Rattle.repair.proofs.Laws.Smooth.Group.{PointsKept, Long, groups-keep, groups-long}
use Rattle.repair.proofs.Laws.Results.{mesh-of}

-- the mesh m' that `smooth` makes of m
pub record Smoothed (m m' : Mesh) : Type 0 where
  -- what it leaves as it is
  pub elements : m'.elements ≡ m.elements
  pub surface : m'.surface ≡ m.surface
  pub masks : m'.masks ≡ m.masks
  pub vertices : length m'.points ≡ length m.points
  pub parameters : length m'.parameters ≡ length m.parameters
  -- moved points stay within 2 ^ 20
  pub near : AllNear m'.points
  -- "every determinant is above 0"
  pub determinants : (t : Tet) → Memᴰ t m'.elements → lt zero64 (determinant_of m'.points t) ≡ true
  -- no score is below the lowest one before
  pub scores : (t : Tet) → Memᴰ t m'.elements → units_of (lowest_of (measure m.points) m.elements) ≤ units_of (score_of m'.points t)

module _ (o : Options) (low : sized_point o.bounds.lo ≡ true) (high : sized_point o.bounds.hi ≡ true) (fields : List Field) (regions : Option (List ℕ))
    (m : Mesh) (near : AllNear m.points) (upright : (t : Tet) → Memᴰ t m.elements → lt zero64 (determinant_of m.points t) ≡ true) where
  start : State
  start = record { parameters = m.parameters; points = m.points; moved = 0 }

  pub smooth-keeps : (count : ℕ) (m' : Mesh) → smooth o fields regions m ≡ made count m' → Smoothed m m'
  unfolding smooth start
  smooth-keeps count m' e = subst (Smoothed m) (mesh-of e) (record {
    elements = refl;
    surface = refl;
    masks = refl;
    vertices = long.points;
    parameters = long.parameters;
    near = kept.near;
    determinants = kept.upright;
    scores = kept.floor;
  })
    where
      F : ℕ
      F = units_of (lowest_of (measure m.points) m.elements)

      kept : PointsKept m.elements F (smooth_groups o fields regions m start (groups o m.parameters)).points
      kept =
          groups-keep o low high fields regions m F (lowest-one (score_of m.points) (score-exact m.points near) m.elements) start (groups o m.parameters)
          (record { near = near; upright = upright; floor = λ t i. lowest-under (score_of m.points) (score-exact m.points near) m.elements i })

      long : Long start (smooth_groups o fields regions m start (groups o m.parameters))
      long = groups-long o fields regions m start start (groups o m.parameters) (record { parameters = refl; points = refl })

-- so the alternating count is the same
pub smooth-alternates : (m m' : Mesh) → Smoothed m m'
    → alternating (length m'.points) (map vertices_of m'.elements) ≡ alternating (length m.points) (map vertices_of m.elements)
smooth-alternates m m' s =
    ap (λ n. alternating n (map vertices_of m'.elements)) s.vertices ∙ ap (λ ts. alternating (length m.points) (map vertices_of ts)) s.elements

-- and the lowest score never falls
pub smooth-lowest : (m m' : Mesh) → AllNear m.points → Smoothed m m'
    → units_of (lowest_of (measure m.points) m.elements) ≤ units_of (lowest_of (measure m'.points) m'.elements)
smooth-lowest m m' near s =
    lowest-over (score_of m'.points) (score-exact m'.points s.near) (units_of (lowest_of (measure m.points) m.elements))
    (lowest-one (score_of m.points) (score-exact m.points near) m.elements) m'.elements s.scores

-- in the terms of demand 3: "every score is at least the smaller of 0.1 and the lowest score at the start", nothing taken off
pub smooth-scores : (m m' : Mesh) → AllNear m.points → Smoothed m m' → (t : Tet) → Memᴰ t m'.elements
    → Exact (score_of m'.points t)
    × (10 ^ 12 * units_of (smaller tenth (lowest_of (measure m.points) m.elements)) ≤ 10 ^ 12 * units_of (score_of m'.points t) + 2 * 2 ^ 1074 * 0)
smooth-scores m m' near s t i = (
  score-exact m'.points s.near t,
  no-loss (lowest_of (measure m.points) m.elements) (score_of m'.points t) (lowest-exact (score_of m.points) (score-exact m.points near) m.elements) (s.scores t i),
)
