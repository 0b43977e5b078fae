-- Demand 3, for every list of calls: `wholeness` proves the statement of specs/Wholeness.antt. Each pass keeps its parts
-- (Laws/Improve, Laws/Smooth, Laws/Flip), and a list of calls is one after the other (Laws/Improve/Calls). Assumes nothing.
use mathlib.Core.Path.{◌≡◌, sym, subst, subst₂}
use mathlib.Core.Bool.{true}
use mathlib.Core.List.{map, Memᴰ}
use Prim.Native.Nat.{◌≤◌}
use native.Mathlib.Nat.{le_trans}
use lib.ListN.{take}
use Rattle.geometry.specs.declared.bounds.Options.{Options}
use Rattle.geometry.specs.Literals.{tenth}
use Rattle.geometry.specs.Units.{units_of}
use Rattle.mesh.specs.declared.element.Triple.{Triple}
use Rattle.mesh.specs.inside.Complex.{Proper}
use Rattle.mesh.specs.Element.{vertices_of, key_of}
use Rattle.mesh.specs.Boundary.{all_faces, with_key, OneOrTwo}
use Rattle.mesh.specs.Intake.{sized_point, bounds_in, options_in}
use Rattle.mesh.specs.Measure.{measure, score_of, lowest_of}
use Rattle.mesh.proofs.Laws.Bools.{and_left, and_right}
use Rattle.repair.specs.Mesh.{Mesh}
use Rattle.repair.specs.Step.{mesh_of, given, lengths_of}
use Rattle.repair.specs.Wholeness.{Wholeness, StaysClosed}
use Rattle.repair.proofs.Laws.Improve.Scores.{floor-of, smaller-right, tenth-exact}
use Rattle.repair.proofs.Laws.Improve.Points.{points_near}
use Rattle.mesh.proofs.Laws.Boundary.Meaning.{fine}
use Rattle.repair.proofs.Laws.Improve.Intake.{intake-passed}
use Rattle.repair.proofs.Laws.Improve.Keeps.{floor_units}
use Rattle.repair.proofs.Laws.Improve.Buffers.{intake-sound, committed-whole}
use Rattle.repair.proofs.Laws.Improve.Calls.{SmoothKeeps, FlipKeeps, wholeness-by}
use Rattle.repair.proofs.Laws.Improve.Closed.{stays_closed}
use Rattle.repair.proofs.Laws.Smooth.Scores.{AllNear, score-exact, lowest-exact}
use Rattle.repair.proofs.Laws.Smooth.Pass.{Smoothed, smooth-keeps, smooth-alternates}
use Rattle.repair.proofs.Laws.Flip.Pass.{Flipped, flip-keeps}

-- the box's corners are sized, by intake
corners : (o : Options) → options_in o ≡ true → (sized_point o.bounds.lo ≡ true) × (sized_point o.bounds.hi ≡ true)
corners o h =
    let b : bounds_in o.bounds ≡ true = and_left (bounds_in o.bounds) _ h in
    (and_left (sized_point o.bounds.lo) _ b, and_left (sized_point o.bounds.hi) _ (and_right (sized_point o.bounds.lo) _ b))

-- the floor at the start is at most the lowest score
floor-lowest : (m : Mesh) → AllNear m.points → floor_units m ≤ units_of (lowest_of (measure m.points) m.elements)
floor-lowest m near = smaller-right tenth (lowest_of (measure m.points) m.elements) tenth-exact (lowest-exact (score_of m.points) (score-exact m.points near) m.elements)

pub smooth-whole : SmoothKeeps
unfolding given
smooth-whole c s count n h r =
    let m = mesh_of s in
    let p = intake-passed (given (lengths_of c s) c s) h in
    let S = intake-sound (lengths_of c s) c s h in
    let near : AllNear m.points = points_near m.points S.sized in
    let q = corners c.options p.options in
    let k : Smoothed m n = smooth-keeps c.options q.0 q.1 (take c.count c.fields) c.regions m near S.upright count n r in
    committed-whole s n 0 (record {
      proper = subst₂ (λ v ts. Proper v (map vertices_of ts)) (sym k.vertices) (sym k.elements) S.proper;
      alternates = smooth-alternates m n k;
      triangles = subst (λ ts. (f : Triple) → Memᴰ f (all_faces ts) → OneOrTwo (with_key (key_of f) (all_faces ts))) (sym k.elements) (fine m.elements p.boundary);
      determinants = k.determinants;
      scores = λ t i. (score-exact n.points k.near t, floor-of (floor_units m) 0 (score_of n.points t) (le_trans (floor-lowest m near) (k.scores t i)));
    })

pub flip-whole : FlipKeeps
unfolding given
flip-whole c s count n h r =
    let m = mesh_of s in
    let p = intake-passed (given (lengths_of c s) c s) h in
    let S = intake-sound (lengths_of c s) c s h in
    let near : AllNear m.points = points_near m.points S.sized in
    let k : Flipped m n count = flip-keeps m near S.proper p.boundary S.upright count n r in
    committed-whole s n 0 (record {
      proper = k.proper;
      alternates = k.alternates;
      triangles = k.triangles;
      determinants = k.determinants;
      scores = λ t i. (score-exact n.points (subst AllNear (sym k.points) near) t, floor-of (floor_units m) 0 (score_of n.points t) (le_trans (floor-lowest m near) (k.scores t i)));
    })

-- demand 3
pub wholeness : Wholeness
wholeness = wholeness-by smooth-whole flip-whole

-- and the surface triples stay the boundary
pub closedness : StaysClosed
closedness = stays_closed
