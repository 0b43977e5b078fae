-- Demand 3 for one `improve` that makes a mesh, on values: the alternating count, the triangles, the determinants and the scores.
-- Assumes nothing.
use mathlib.Core.Path.{◌≡◌, refl, sym, ap, subst, subst₂, ◌∙◌}
use mathlib.Core.Logic.{inl, inr}
use mathlib.Core.Bool.{Bool, true, false, cond}
use mathlib.Core.List.Memᴰ
use mathlib.Core.List.{[], map, Memᴰ}
use Prim.Native.Nat.{ℕ, ◌≤◌}
use native.Mathlib.Nat.{le_trans}
use native.Mathlib.Omega.{arith}
use borrow.Author.Tests.{eqb-true, eqb-false}
use lib.Dec.{eqb}
use lib.Ieee.{Float, lt}
use lib.ListN.{length, length-map}
use Rattle.geometry.specs.declared.bounds.Options.{Options}
use Rattle.geometry.specs.Float.{zero64, smaller}
use Rattle.geometry.specs.Literals.{tenth}
use Rattle.geometry.specs.Units.{units_of}
use Rattle.geometry.specs.Point.{determinant}
use Rattle.geometry.specs.Score.{score}
use Rattle.mesh.specs.declared.element.Tet.{Tet}
use Rattle.mesh.specs.declared.element.Triple.{Triple}
use Rattle.mesh.specs.Words.{point_at}
use Rattle.mesh.specs.Complex.{alternating}
use Rattle.mesh.specs.inside.Complex.{Proper}
use Rattle.mesh.specs.inside.Moves.{Run, start, then}
use Rattle.mesh.specs.Tests.{every}
use Rattle.mesh.specs.Element.{vertices_of, key_of}
use Rattle.mesh.specs.Boundary.{all_faces, with_key, boundary_number, OneOrTwo}
use Rattle.mesh.specs.Intake.{sized_point}
use Rattle.mesh.specs.Measure.{Measure, measure, determinant_of, score_of, lowest_of}
use Rattle.mesh.proofs.Laws.Complex.Sets.{split, mem-nil}
use Rattle.mesh.proofs.Laws.Complex.Steps.{run-keeps, run-alternating}
use Rattle.mesh.proofs.Laws.Boundary.Meaning.{fine}
use Rattle.repair.specs.Mesh.{Mesh, made, refused}
use Rattle.repair.specs.Improve.{State, image_of, place_of, rounds, renumbered, end_number, improve_by, improve}
use Rattle.repair.specs.Wholeness.{Exact}
use Rattle.repair.proofs.Laws.Improve.Single.{Distinct, size}
use Rattle.repair.proofs.Laws.Improve.Uses.{uses, renumber-step, points_kept}
use Rattle.repair.proofs.Laws.Improve.Scores.{Floor, floor-of, smaller-left, smaller-right, lowest-keeps, lowest-least, tenth-exact, one-exact}
use Rattle.repair.proofs.Laws.Improve.Points.{taken-sized, scores-exact}
use Rattle.repair.proofs.Laws.Improve.Rounds.{ElementsKept, rounds-kept}

-- no number at the end: none at the boundary
end-boundary : (m : Mesh) → end_number m ≡ 0 → boundary_number m.elements ≡ 0
unfolding end_number
end-boundary m h =
    elim (split (eqb (boundary_number m.elements) 0)) [
      | inl q ↦ eqb-true (boundary_number m.elements) 0 q
      | inr q ↦ absurd (eqb-false (boundary_number m.elements) 0 q (rw q at h))
    ]

-- what intake says of a mesh
pub record Sound (m : Mesh) : Type 0 where
  pub counted : size m ≡ length m.points
  pub proper : Proper (length m.points) (map vertices_of m.elements)
  pub sized : every sized_point m.points ≡ true
  pub upright : (t : Tet) → Memᴰ t m.elements → lt zero64 (determinant_of m.points t) ≡ true

-- the smaller of 0.1 and the lowest score
abbrev pub floor_units : Mesh → ℕ
floor_units m = units_of (smaller tenth (lowest_of (measure m.points) m.elements))

-- what demand 3 says of the mesh n that a pass made of m, where it replaced `count` vertices
pub record Keeps (m n : Mesh) (count : ℕ) : Type 0 where
  pub proper : Proper (length n.points) (map vertices_of n.elements)
  pub alternates : alternating (length n.points) (map vertices_of n.elements) ≡ alternating (length m.points) (map vertices_of m.elements)
  pub triangles : (f : Triple) → Memᴰ f (all_faces n.elements) → OneOrTwo (with_key (key_of f) (all_faces n.elements))
  pub determinants : (t : Tet) → Memᴰ t n.elements → lt zero64 (determinant_of n.points t) ≡ true
  pub scores : (t : Tet) → Memᴰ t n.elements → Exact (score_of n.points t) × Floor (floor_units m) count (score_of n.points t)

-- ---- the start

module _ (m : Mesh) (S : Sound m) where
  all-exact : (x : Float) → Memᴰ x (map (score_of m.points) m.elements) → Exact x
  all-exact x i = let r = Memᴰ.of_map (score_of m.points) m.elements i in subst Exact r.2 (scores-exact m.points S.sized r.0)

  lowest-exact : Exact (lowest_of (measure m.points) m.elements)
  lowest-exact = lowest-keeps Exact (map (score_of m.points) m.elements) one-exact all-exact

  -- the floor is at most 0.1 and at most each score
  pub floor-tenth : floor_units m ≤ units_of tenth
  floor-tenth = smaller-left tenth (lowest_of (measure m.points) m.elements) tenth-exact lowest-exact

  pub floor-score : (t : Tet) → Memᴰ t m.elements → floor_units m ≤ units_of (score_of m.points t)
  floor-score t i =
      le_trans (smaller-right tenth (lowest_of (measure m.points) m.elements) tenth-exact lowest-exact)
      (lowest-least (map (score_of m.points) m.elements) all-exact (Memᴰ.map (score_of m.points) i))

  start-kept : ElementsKept (size m) (map vertices_of m.elements) (measure m.points) (floor_units m) (record { elements = m.elements; replaced = [] })
  start-kept = record { run = start; above = S.upright; floor = λ t i. floor-of (floor_units m) 0 (score_of m.points t) (floor-score t i); gone = λ v i t j. absurd (mem-nil v i) }

-- ---- the end

-- where the rounds of an `improve` end, by a measure and by that of its points
abbrev pub last_by : Measure → Options → Mesh → State
last_by μ o m = rounds o m μ o.passes (record { elements = m.elements; replaced = [] })

abbrev pub last : Options → Mesh → State
last o m = last_by (measure m.points) o m

pub record Made (μ : Measure) (o : Options) (m n : Mesh) (count : ℕ) : Type 0 where
  pub counts : count ≡ length (last_by μ o m).replaced
  pub mesh : n ≡ renumbered m (last_by μ o m).elements
  pub end : end_number (renumbered m (last_by μ o m).elements) ≡ 0

-- what `improve` made: the count is the number of vertices replaced, the mesh the renumbered one, and no number applied
pub made_by : (μ : Measure) (o : Options) (m n : Mesh) (count : ℕ) → improve_by μ o m ≡ made count n → Made μ o m n count
unfolding improve_by
made_by μ o m n count h = by (eqb (end_number (renumbered m (last_by μ o m).elements)) 0) refl h
  where
    by : (t : Bool) → eqb (end_number (renumbered m (last_by μ o m).elements)) 0 ≡ t
        → cond t (made (length (last_by μ o m).replaced) (renumbered m (last_by μ o m).elements)) (refused (end_number (renumbered m (last_by μ o m).elements))) ≡ made count n → Made μ o m n count
    by true e h = record { counts = cc; mesh = cc; end = eqb-true (end_number (renumbered m (last_by μ o m).elements)) 0 e }
    by false e h = absurd (let z : ◌≡◌ {A = ℕ} 0 1 = cc in omega arith)

pub improve-made : (o : Options) (m n : Mesh) (count : ℕ) → improve o m ≡ made count n → Made (measure m.points) o m n count
unfolding improve
improve-made o m n count h = made_by (measure m.points) o m n count h

module _ (o : Options) (m : Mesh) (S : Sound m) (d : Distinct o m.parameters) where
  pub last-kept : ElementsKept (size m) (map vertices_of m.elements) (measure m.points) (floor_units m) (last o m)
  last-kept =
      rounds-kept o m (measure m.points) (map vertices_of m.elements) (floor_units m) (subst (λ n. Proper n (map vertices_of m.elements)) (sym S.counted) S.proper) d (scores-exact m.points S.sized) (floor-tenth m S)
      o.passes (record { elements = m.elements; replaced = [] }) (start-kept m S)

  last-run : Run (length m.points) (map vertices_of m.elements) (length (uses (last o m).elements)) (map vertices_of (map (image_of (place_of (uses (last o m).elements))) (last o m).elements))
  last-run =
      subst (λ k. Run k (map vertices_of m.elements) (length (uses (last o m).elements)) (map vertices_of (map (image_of (place_of (uses (last o m).elements))) (last o m).elements))) S.counted
      (then last-kept.run (renumber-step (size m) (last o m).elements))

  renumbered-proper : Proper (length (renumbered m (last o m).elements).points) (map vertices_of (renumbered m (last o m).elements).elements)
  unfolding renumbered
  renumbered-proper =
      let ts = (last o m).elements in
      let new = map vertices_of (map (image_of (place_of (uses ts))) ts) in
      subst (λ k. Proper k new) (sym (length-map (uses ts) (point_at m.points))) (run-keeps (length m.points) (map vertices_of m.elements) S.proper last-run).0

  renumbered-keeps : end_number (renumbered m (last o m).elements) ≡ 0 → Keeps m (renumbered m (last o m).elements) (length (last o m).replaced)
  unfolding renumbered
  renumbered-keeps e =
      let ts = (last o m).elements in
      let place = image_of (place_of (uses ts)) in
      let new = map (point_at m.points) (uses ts) in
      record {
        proper = renumbered-proper;
        alternates = ap (λ k. alternating k (map vertices_of (map place ts))) (length-map (uses ts) (point_at m.points)) ∙ sym (run-alternating (length m.points) (map vertices_of m.elements) S.proper last-run);
        triangles = fine (map place ts) (end-boundary (renumbered m ts) e);
        determinants = λ t i.
            let r = Memᴰ.of_map place ts i in
            subst (λ u. lt zero64 (determinant_of new u) ≡ true) r.2 (ap (lt zero64) (points_kept m.points ts r.1 determinant) ∙ last-kept.above r.0 r.1);
        scores = λ t i.
            let r = Memᴰ.of_map place ts i in
            subst (λ u. Exact (score_of new u) × Floor (floor_units m) (length (last o m).replaced) (score_of new u)) r.2
            (subst (λ x. Exact x × Floor (floor_units m) (length (last o m).replaced) x) (sym (points_kept m.points ts r.1 score)) (scores-exact m.points S.sized r.0, last-kept.floor r.0 r.1));
      }

  renumbered-sound : end_number (renumbered m (last o m).elements) ≡ 0 → Sound (renumbered m (last o m).elements)
  unfolding renumbered
  renumbered-sound e =
      let ts = (last o m).elements in
      record {
        counted = length-map (uses ts) (point_at m.parameters) ∙ sym (length-map (uses ts) (point_at m.points));
        proper = renumbered-proper;
        sized = taken-sized m.points S.sized (uses ts);
        upright = (renumbered-keeps e).determinants;
      }

-- an `improve` that makes a mesh keeps the alternating count, makes each triangle lie in one element or in two with opposite parity, leaves
-- every determinant above 0, and each score at least the smaller of 0.1 and the lowest at the start, less 2e-12 for each vertex replaced
pub improve-keeps : (o : Options) (m n : Mesh) (count : ℕ) → Sound m → Distinct o m.parameters → improve o m ≡ made count n → Keeps m n count
improve-keeps o m n count S d h =
    let r = improve-made o m n count h in
    subst₂ (λ k u. Keeps m u k) (sym r.counts) (sym r.mesh) (renumbered-keeps o m S d r.end)

-- and the mesh is sound again
pub improve-sound : (o : Options) (m n : Mesh) (count : ℕ) → Sound m → Distinct o m.parameters → improve o m ≡ made count n → Sound n
improve-sound o m n count S d h =
    let r = improve-made o m n count h in
    subst Sound (sym r.mesh) (renumbered-sound o m S d r.end)
