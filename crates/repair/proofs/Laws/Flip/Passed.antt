-- `flip` on whole buffers: intake's answer says what the pass asks, and what the pass leaves in the two buffers that it changes is what the
-- definition puts into all of them. Assumes nothing.
use mathlib.Core.Path.{◌≡◌, refl, sym, ap, ◌∙◌}
use mathlib.Core.Logic.{inl, inr}
use mathlib.Core.Bool.{cond}
use mathlib.Core.List.{List}
use Prim.Native.Nat.{ℕ, ◌*◌, ◌≤◌}
use lib.Dec.{eqb}
use lib.Ieee.{Float}
use lib.ListN.{length, take}
use Rattle.mesh.specs.declared.element.Triple.{Triple}
use Rattle.mesh.specs.declared.element.Tet.{Tet}
use Rattle.mesh.specs.Words.{zero_words, points_of}
use Rattle.mesh.specs.Element.{triples, all_corners, all_vertices}
use Rattle.mesh.specs.Boundary.{boundary_of}
use Rattle.mesh.specs.Intake.{intake}
use Rattle.mesh.proofs.Laws.Complex.Sets.{split}
use Rattle.mesh.proofs.Laws.Intake.Reads.{length-points}
use Rattle.repair.specs.Step.{Answer}
use Rattle.repair.specs.Step.{Done}
use Rattle.repair.specs.Mesh.{Mesh, made, refused}
use Rattle.repair.specs.Flip as def
use Rattle.repair.specs.Step.{State, Call, Pass, sizes_after, mesh_of, lengths_of, floats_of, over, committed, result_of, finish}
use Rattle.repair.specs.inside.flip.Finish.{flip_end}
use Rattle.repair.specs.inside.flip.Fitting.{FlipFitting, flip_last, flip_whole}
use Rattle.repair.proofs.Laws.Entry.{seen, lengths, fitting}
use Rattle.repair.proofs.Laws.Lengths.{LongEnough}
use Rattle.repair.proofs.Laws.Site.Pass.{floats-front, over-is}

-- ---- what intake says

module _ (c : Call) (s : State) (work : List ℕ) (floats : List Float) (words : c.words ≡ length work) (many : c.floats ≡ length floats) (number : ℕ) (e : number ≡ intake (seen c s work floats words many)) (passes : number ≡ 0) where
  -- the buffers are as `flip` asks
  pub flip-fitting : (w : List ℕ) → w ≡ zero_words (length work) → FlipFitting s.sizes s.elements s.surface w
  flip-fitting w z =
      let f = fitting c s work floats words many number e passes w z in
      let h = lengths c s work floats words many number e passes in
      record {
        vertices = f.vertices;
        elements = f.elements;
        triples = h.triples;
        slots = h.slots;
        surface = h.surface;
        long = f.long;
        numbered = f.numbered;
      }

-- the pass on values of a call of `flip`
pub flip-result : (c : Call) (s : State) → c.pass ≡ Pass.flip → finish s (def.flip (mesh_of s)) ≡ finish s (result_of c.pass c (mesh_of s))
unfolding result_of
flip-result c s e = rw e refl

-- ---- the buffers afterwards

-- an answer beside all buffers, where two of them changed
abbrev pub placed : State → Answer → List ℕ → List ℕ → Answer × State
placed s a es ss = (a, record { parameters = s.parameters; points = s.points; masks = s.masks; elements = es; surface = ss; sizes = sizes_after a s.sizes })

module _ (c : Call) (s : State) (fit : LongEnough s.sizes (lengths_of c s)) where
  -- the mesh with other elements
  with-elements : List Tet → Mesh
  with-elements ts = record {
    parameters = points_of s.sizes.vertices s.parameters;
    points = points_of s.sizes.vertices s.points;
    masks = take s.sizes.vertices s.masks;
    elements = ts;
    surface = boundary_of ts;
  }

  -- the parts that are as they were
  floats_same : (l : List Float) → 3 * s.sizes.vertices ≤ length l → over (floats_of (points_of s.sizes.vertices l)) l ≡ l
  floats_same l h = over-is (floats_of (points_of s.sizes.vertices l)) l l (3 * s.sizes.vertices) h (floats-front s.sizes.vertices l h) refl

  done-is : (count : ℕ) (ts : List Tet)
      → placed s (Done count (record { vertices = s.sizes.vertices; elements = length ts; triples = length (boundary_of ts) })) (over (all_vertices ts) s.elements) (over (all_corners (boundary_of ts)) s.surface)
      ≡ finish s (made count (with-elements ts))
  unfolding committed with-elements
  done-is count ts =
      let n : s.sizes.vertices ≡ length (points_of s.sizes.vertices s.points) = sym (length-points s.sizes.vertices s.points) in
      let p = sym (floats_same s.parameters fit.parameters) in
      let q = sym (floats_same s.points fit.points) in
      let m = sym (over-is (take s.sizes.vertices s.masks) s.masks s.masks s.sizes.vertices fit.masks refl refl) in
      λ i. (
        Done count (record { vertices = n i; elements = length ts; triples = length (boundary_of ts) }),
        record {
          parameters = p i;
          points = q i;
          masks = m i;
          elements = over (all_vertices ts) s.elements;
          surface = over (all_corners (boundary_of ts)) s.surface;
          sizes = record { vertices = n i; elements = length ts; triples = length (boundary_of ts) };
        },
      )

  abbrev spread : Answer × List ℕ × List ℕ → Answer × State
  spread a = placed s a.0 a.1 a.2

  -- done or refused
  ended : (count : ℕ) (fs : List Triple) (ts : List Tet)
      → spread (flip_end count s.sizes.vertices fs ts s.elements s.surface)
      ≡ finish s (cond (eqb (def.end_number fs ts) 0) (made count (with-elements ts)) (refused (def.end_number fs ts)))
  unfolding flip_end
  ended count fs ts = elim (split (eqb (def.end_number fs ts) 0)) [ inl q ↦ rw q (done-is count ts) | inr q ↦ rw q refl ]

  -- what the pass leaves is the definition's
  pub flip-finished : (a : Answer) (es ss : List ℕ) → ◌≡◌ {A = Answer × List ℕ × List ℕ} (a, es, ss) (flip_whole s.sizes s.points s.elements s.surface)
      → placed s a es ss ≡ finish s (def.flip (mesh_of s))
  unfolding flip_whole def.flip def.flip_by mesh_of with-elements
  flip-finished a es ss h =
      let l = flip_last s.sizes s.points s.elements in
      ap spread h ∙ ended l.flips (triples s.sizes.triples s.surface) (def.live l.slots)
