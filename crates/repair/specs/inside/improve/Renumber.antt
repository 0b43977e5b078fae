-- The end of `improve` on buffers: what it asks of its area and its buffers, what it answers, and what its functions leave (drawn in
-- src/improve/renumber.rt). For the contracts of private functions; definitions only.
use Rattle.std.specs.Prelude.{ℕ, zero, suc, ◌+◌, ◌-◌, ◌*◌, ◌≤◌, ◌<◌, ◌≡◌, true, cond, List, [], ◌∷◌, ◌++◌, map, eqb, ltb, Float, length, take, drop, set, slice_index_or}
use Rattle.mesh.specs.declared.element.Tet.{Tet}
use Rattle.mesh.specs.declared.intake.Sizes.{Sizes}
use Rattle.mesh.specs.Surface.{Outcome}
use Rattle.mesh.specs.Surface.{Surface, Refused}
use Rattle.mesh.specs.Words.{word_at, point_in}
use Rattle.mesh.specs.Tests.{every}
use Rattle.mesh.specs.Element.{tets, all_corners, all_vertices}
use Rattle.mesh.specs.Boundary.{boundary_number, boundary_of}
use Rattle.mesh.specs.Surface.{answer}
use Rattle.mesh.specs.Manifold.{nonmanifold, nonmanifold_in}
use Rattle.mesh.specs.Intake.{well_numbered}
use Rattle.repair.specs.declared.improve.buffers.Buffers.{Buffers}
use Rattle.repair.specs.Step.{Answer}
use Rattle.repair.specs.Mesh.{made, refused}
use Rattle.repair.specs.Improve.{image_of, first_uses, place_of, renumbered, end_number}
use Rattle.repair.specs.Step.{State, mesh_of, floats_of, over, finish}

-- ---- what the end of `improve` gives

-- the answer and the buffers for the elements ts and a count
unfoldable pub improve_end : ℕ → List Tet → State → Answer × State
improve_end count ts s =
    let n = renumbered (mesh_of s) ts in
    finish s (cond (eqb (end_number n) 0) (made count n) (refused (end_number n)))

-- ---- what it asks

-- k elements stand at the front of an area that is long enough, with four different vertices of nv each
pub record EndArea (k nv : ℕ) (s : List ℕ) : Type 0 where
  pub elements : k ≤ 16384
  pub vertices : nv ≤ 4096
  pub long : 112 * k + 3 * nv ≤ length s
  pub numbered : every (well_numbered nv) (tets k s) ≡ true

-- buffers of these lengths have room for a mesh with the sizes z, and k elements are not more
pub record EndBuffers (z : Sizes) (k p q m e t f : ℕ) : Type 0 where
  pub few : k ≤ z.elements
  pub parameters : 3 * z.vertices ≤ p
  pub points : 3 * z.vertices ≤ q
  pub masks : z.vertices ≤ m
  pub elements : 8 * z.elements ≤ e
  pub surface : 12 * z.elements ≤ t
  pub floats : 16 * z.vertices ≤ f

-- the same of such buffers
abbrev pub EndFits : Sizes → ℕ → Buffers → ℕ → Type 0
EndFits z k b f = EndBuffers z k (length b.parameters.now) (length b.points.now) (length b.masks.now) (length b.elements.now) (length b.surface.now) f

-- ---- numbering by first use

-- the vertices used by the elements, in the order of their first use
abbrev pub used_by : List Tet → List ℕ
used_by ts = first_uses (all_vertices ts)

-- where their old numbers stand
abbrev pub used_at : ℕ → ℕ → ℕ
used_at k nv = 112 * k + nv

-- s once the vertex at p has its number, with the marks from m on and the c vertices met listed from u on
unfoldable pub numbered_at : ℕ → ℕ → ℕ → ℕ → List ℕ → List ℕ
numbered_at m u c p s =
    cond (eqb (word_at s (m + word_at s p)) 0)
    (set (set (set s (m + word_at s p) (c + 1)) (u + c) (word_at s p)) p c)
    (set s p (word_at s (m + word_at s p) - 1))

-- how many are met then
unfoldable pub met_at : ℕ → ℕ → ℕ → List ℕ → ℕ
met_at m c p s = cond (eqb (word_at s (m + word_at s p)) 0) (c + 1) c

-- m words below nv, nv marks behind them that are 0, and a list of nv from u on
pub record Unmet (m nv u : ℕ) (s : List ℕ) : Type 0 where
  pub words : m ≤ 65536
  pub marks : m + nv ≤ u
  pub list : u ≤ 2000000
  pub long : u + nv ≤ length s
  pub below : every (λ v. ltb v nv) (take m s) ≡ true
  pub clean : (v : ℕ) → v < nv → word_at s (m + v) ≡ 0

-- the words with their new numbers, and the n old ones from u on
pub record Numbered (m u : ℕ) (s₀ s : List ℕ) (n : ℕ) : Type 0 where
  pub many : n ≡ length (first_uses (take m s₀))
  pub words : take m s ≡ map (place_of (first_uses (take m s₀))) (take m s₀)
  pub used : take n (drop u s) ≡ first_uses (take m s₀)

-- the elements with their new numbers, and the n old ones
pub record Renumbered (k nv : ℕ) (s₀ s : List ℕ) (n : ℕ) : Type 0 where
  pub many : n ≡ length (used_by (tets k s₀))
  pub elements : tets k s ≡ map (image_of (place_of (used_by (tets k s₀)))) (tets k s₀)
  pub used : take n (drop (used_at k nv) s) ≡ used_by (tets k s₀)

-- ---- the boundary and its test

-- 16 or 17, then 22, and else 0
unfoldable pub end_of : List Tet → ℕ
end_of ts = cond (eqb (boundary_number ts) 0) (cond (nonmanifold (boundary_of ts)) 22 0) (boundary_number ts)

-- what `nonmanifold_in` makes of an outcome, and of a part
abbrev pub tested_outcome : Outcome → List ℕ → Outcome
tested_outcome (Surface c) p = cond (nonmanifold_in c p).answer (Refused 22) (Surface c)
tested_outcome (Refused number) p = Refused number

abbrev pub tested_part : Outcome → List ℕ → List ℕ
tested_part (Surface c) p = (nonmanifold_in c p).area
tested_part (Refused number) p = p

-- the answer for the k elements; with no number they are kept, and the triples stand behind them. What stands from `used_at` on is kept
pub record Ended (k nv : ℕ) (s₀ s : List ℕ) (r : Outcome) : Type 0 where
  pub answer : r ≡ answer (end_of (tets k s₀)) (length (boundary_of (tets k s₀)))
  pub front : end_of (tets k s₀) ≡ 0 → take (4 * k) s ≡ take (4 * k) s₀
  pub surface : end_of (tets k s₀) ≡ 0 → take (3 * length (boundary_of (tets k s₀))) (drop (4 * k) s) ≡ all_corners (boundary_of (tets k s₀))
  pub behind : drop (used_at k nv) s ≡ drop (used_at k nv) s₀

-- ---- the new mesh in the buffers

-- the n numbers from u on
abbrev pub listed : ℕ → ℕ → List ℕ → List ℕ
listed u n s = take n (drop u s)

-- the n values of s from k on, z where there is none
abbrev pub values_from : {A : Type 0} → A → List A → ℕ → ℕ → List A
values_from z s k zero = []
values_from z s k (suc n) = values_from z s k n ++ (slice_index_or s (k + n) z ∷ [])

-- the w values of each of these vertices
abbrev pub values_of : {A : Type 0} → A → List A → ℕ → List ℕ → List A
values_of z s w [] = []
values_of z s w (v ∷ vs) = values_from z s (w * v) w ++ values_of z s w vs

-- the points of these vertices over the first, and their masks
abbrev pub moved_points : List ℕ → List Float → List Float
moved_points vs s = over (floats_of (map (point_in s) vs)) s

abbrev pub moved_masks : List ℕ → List ℕ → List ℕ
moved_masks vs s = over (map (word_at s) vs) s

-- the mesh of the sizes z in the buffers
abbrev pub state_in : Sizes → Buffers → State
state_in z b = record { parameters = b.parameters.now; points = b.points.now; masks = b.masks.now; elements = b.elements.now; surface = b.surface.now; sizes = z }

-- the buffers are the same ones, whatever they hold
abbrev pub SameBuffers : Buffers → Buffers → Type 0
SameBuffers b c =
    (c.parameters.ghost_name ≡ b.parameters.ghost_name) × (c.points.ghost_name ≡ b.points.ghost_name) × (c.masks.ghost_name ≡ b.masks.ghost_name)
    × (c.elements.ghost_name ≡ b.elements.ghost_name) × (c.surface.ghost_name ≡ b.surface.ghost_name)

-- the mesh of the sizes z that stands in an area for nv vertices fits there, and into buffers of these lengths
pub record MeshRoom (z : Sizes) (nv p q m e t a f : ℕ) : Type 0 where
  pub vertices : z.vertices ≤ nv
  pub parameters : 3 * z.vertices ≤ p
  pub points : 3 * z.vertices ≤ q
  pub masks : z.vertices ≤ m
  pub elements : 4 * z.elements ≤ e
  pub triples : z.triples ≤ 4 * z.elements
  pub surface : 3 * z.triples ≤ t
  pub area : 112 * z.elements + 3 * nv ≤ a
  pub floats : 3 * z.vertices ≤ f

-- the same of such buffers
abbrev pub MeshFits : Sizes → ℕ → Buffers → ℕ → ℕ → Type 0
MeshFits z nv b a f = MeshRoom z nv (length b.parameters.now) (length b.points.now) (length b.masks.now) (length b.elements.now) (length b.surface.now) a f

-- the buffers with the mesh of the sizes z that stands in the area a
unfoldable pub moved_in : Sizes → ℕ → List ℕ → State → State
moved_in z nv a s = record {
  parameters = moved_points (listed (used_at z.elements nv) z.vertices a) s.parameters;
  points = moved_points (listed (used_at z.elements nv) z.vertices a) s.points;
  masks = moved_masks (listed (used_at z.elements nv) z.vertices a) s.masks;
  elements = over (take (4 * z.elements) a) s.elements;
  surface = over (take (3 * z.triples) (drop (4 * z.elements) a)) s.surface;
  sizes = z;
}
