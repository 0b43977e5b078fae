-- Values in buffers: what is put into the buffers is read from them again. So what a pass keeps on values (`Keeps`) is `Whole` of the
-- states before and after the call. Assumes nothing.
use mathlib.Core.Path.{◌≡◌, refl, sym, ap, subst, subst₂, ◌∙◌}
use mathlib.Core.Bool.{true}
use mathlib.Core.List.{List, [], ◌∷◌, ◌++◌, map, Memᴰ}
use Prim.Native.Nat.{ℕ}
use lib.Ieee.{Float, lt}
use lib.ListN.{length, take, drop}
use Rattle.geometry.specs.declared.point.Point.{Point}
use Rattle.geometry.specs.Float.{zero64}
use Rattle.mesh.specs.declared.element.Tet.{Tet}
use Rattle.mesh.specs.declared.element.Triple.{Triple}
use Rattle.mesh.specs.Words.{points_of}
use Rattle.mesh.specs.Complex.{alternating}
use Rattle.mesh.specs.Element.{tets, vertices_of, key_of, triples, all_corners, all_vertices}
use Rattle.mesh.specs.Boundary.{all_faces, with_key, OneOrTwo}
use Rattle.mesh.specs.declared.intake.Lengths.{Lengths}
use Rattle.mesh.specs.Tests.{every}
use Rattle.mesh.specs.Intake.{well_numbered, all_different, intake}
use Rattle.mesh.specs.Measure.{determinant_of, score_of}
use Rattle.repair.specs.Mesh.{Mesh}
use Rattle.repair.specs.Step.{State, Call, mesh_of, floats_of, committed, given}
use Rattle.repair.specs.Wholeness.{Exact, Whole}
use Rattle.repair.proofs.Laws.Improve.Scores.{Floor}
use Rattle.repair.proofs.Laws.Improve.Keeps.{Sound, Keeps, floor_units}
use Rattle.repair.proofs.Laws.Improve.Intake.{intake-passed, passed-proper, passed-upright, proper-numbered, proper-different}
use Rattle.mesh.proofs.Laws.Intake.Reads.{length-points}

-- ---- put and read again

pub points-back : (ps : List Point) (rest : List Float) → points_of (length ps) (floats_of ps ++ rest) ≡ ps
unfolding points_of floats_of
points-back [] rest = refl
points-back (p ∷ ps) rest = ap (λ l. p ∷ l) (points-back ps rest)

pub elements-back : (ts : List Tet) (rest : List ℕ) → tets (length ts) (all_vertices ts ++ rest) ≡ ts
unfolding tets all_vertices
elements-back [] rest = refl
elements-back (t ∷ ts) rest = ap (λ l. t ∷ l) (elements-back ts rest)

pub triples-back : (fs : List Triple) (rest : List ℕ) → triples (length fs) (all_corners fs ++ rest) ≡ fs
unfolding triples all_corners
triples-back [] rest = refl
triples-back (f ∷ fs) rest = ap (λ l. f ∷ l) (triples-back fs rest)

pub words_back : (ms : List ℕ) (rest : List ℕ) → take (length ms) (ms ++ rest) ≡ ms
words_back [] rest = refl
words_back (m ∷ ms) rest = ap (λ l. m ∷ l) (words_back ms rest)

-- ---- the mesh in the buffers

pub committed-points : (n : Mesh) (s : State) → (mesh_of (committed n s)).points ≡ n.points
unfolding mesh_of committed
committed-points n s = points-back n.points (drop (length (floats_of n.points)) s.points)

pub committed-elements : (n : Mesh) (s : State) → (mesh_of (committed n s)).elements ≡ n.elements
unfolding mesh_of committed
committed-elements n s = elements-back n.elements (drop (length (all_vertices n.elements)) s.elements)

pub committed-surface : (n : Mesh) (s : State) → (mesh_of (committed n s)).surface ≡ n.surface
unfolding mesh_of committed
committed-surface n s = triples-back n.surface (drop (length (all_corners n.surface)) s.surface)

-- as many points as the sizes say
pub mesh-points : (s : State) → length (mesh_of s).points ≡ s.sizes.vertices
unfolding mesh_of
mesh-points s = length-points s.sizes.vertices s.points

pub mesh-parameters : (s : State) → length (mesh_of s).parameters ≡ s.sizes.vertices
unfolding mesh_of
mesh-parameters s = length-points s.sizes.vertices s.parameters

-- ---- a call

-- a mesh that passes intake is sound
pub intake-sound : (l : Lengths) (c : Call) (s : State) → intake (given l c s) ≡ 0 → Sound (mesh_of s)
unfolding given
intake-sound l c s h =
    let p = intake-passed (given l c s) h in
    record {
      counted = mesh-parameters s ∙ sym (mesh-points s);
      proper = rw (mesh-points s) (passed-proper (given l c s) p);
      sized = p.points;
      upright = passed-upright (given l c s) p;
    }

-- what a pass keeps on values it keeps in the buffers
pub committed-whole : (s : State) (n : Mesh) (count : ℕ) → Keeps (mesh_of s) n count → Whole s (committed n s) count
unfolding committed
committed-whole s n count k =
    let P = committed-points n s in
    let E = committed-elements n s in
    record {
      numbered = subst (λ ts. every (well_numbered (length n.points)) ts ≡ true) (sym E) (proper-numbered (length n.points) n.elements k.proper);
      different = subst (λ ts. all_different ts ≡ true) (sym E) (proper-different (length n.points) n.elements k.proper);
      alternates =
          ap (λ ts. alternating (length n.points) (map vertices_of ts)) E
          ∙ (k.alternates
          ∙ ap (λ v. alternating v (map vertices_of (mesh_of s).elements)) (mesh-points s));
      triangles = subst (λ ts. (f : Triple) → Memᴰ f (all_faces ts) → OneOrTwo (with_key (key_of f) (all_faces ts))) (sym E) k.triangles;
      determinants = subst₂ (λ ps ts. (t : Tet) → Memᴰ t ts → lt zero64 (determinant_of ps t) ≡ true) (sym P) (sym E) k.determinants;
      scores = subst₂ (λ ps ts. (t : Tet) → Memᴰ t ts → Exact (score_of ps t) × Floor (floor_units (mesh_of s)) count (score_of ps t)) (sym P) (sym E) k.scores;
    }
