-- The surface of an element is a closed manifold; that of two elements that meet at one vertex, or along one edge, is none. And why the laws
-- have their premises: a triple of one point, and a triangle with its other side. Assumes nothing.
use mathlib.Core.Path.{◌≡◌, refl, sym, ◌∙◌}
use mathlib.Core.Logic.{inl, inr}
use mathlib.Core.Bool.{true, true≢false}
use mathlib.Core.List.Memᴰ
use mathlib.Core.List.{[], ◌∷◌, Memᴰ}
use Prim.Native.Nat.{ℕ}
use Rattle.mesh.specs.declared.element.Triple.{Triple}
use Rattle.mesh.specs.Complex.{mem}
use Rattle.mesh.specs.Sort.{insert, sort}
use Rattle.mesh.specs.Element.{tet, triple, corners_of, sort_first, sort_last, key_of, all_corners}
use Rattle.mesh.specs.Boundary.{le_triple, all_faces, singles, boundary_of}
use Rattle.mesh.specs.Manifold.{surface_edges, edges_twice, surface_link, grow, reach, one_cycle, nonmanifold}
use Rattle.mesh.proofs.Laws.Complex.Sets.{mem-cases, mem-nil}
use Rattle.theorems.specs.Manifold.{Different, Manifold}
use Rattle.theorems.proofs.Manifold.Whole.{manifold-elim}
use Rattle.theorems.proofs.Manifold.Boundary.{boundary-manifold}

-- ---- surfaces of elements

one-element : Manifold (boundary_of (tet 0 1 2 3 ∷ []))
unfolding insert sort sort_first sort_last key_of le_triple all_faces singles boundary_of surface_edges edges_twice surface_link grow reach one_cycle all_corners nonmanifold
one-element = (boundary-manifold 4 (tet 0 1 2 3 ∷ []) refl).0 refl

at-one-vertex : Manifold (boundary_of (tet 0 1 2 3 ∷ tet 0 4 5 6 ∷ [])) → ⊥
unfolding insert sort sort_first sort_last key_of le_triple all_faces singles boundary_of surface_edges edges_twice surface_link grow reach one_cycle all_corners nonmanifold
at-one-vertex m = true≢false ((boundary-manifold 7 (tet 0 1 2 3 ∷ tet 0 4 5 6 ∷ []) refl).1 m)

along-one-edge : Manifold (boundary_of (tet 0 1 2 3 ∷ tet 0 1 4 5 ∷ [])) → ⊥
unfolding insert sort sort_first sort_last key_of le_triple all_faces singles boundary_of surface_edges edges_twice surface_link grow reach one_cycle all_corners nonmanifold
along-one-edge m = true≢false ((boundary-manifold 6 (tet 0 1 2 3 ∷ tet 0 1 4 5 ∷ []) refl).1 m)

-- ---- the premises

-- a triple with one corner three times has no edge and no link, and the test refuses it
only_zero : (x : ℕ) (f : Triple) → Memᴰ f (triple 0 0 0 ∷ []) → mem x (corners_of f) ≡ true → x ≡ 0
only_zero x f m h =
    elim (Memᴰ.cases_cons m) [
      | inl q ↦ zero (rw q at h)
      | inr k ↦ absurd (Memᴰ.not-nil k)
    ]
  where
    zero : mem x (0 ∷ 0 ∷ 0 ∷ []) ≡ true → x ≡ 0
    zero h =
        elim (mem-cases x 0 (0 ∷ 0 ∷ []) h) [
          | inl q ↦ q
          | inr i ↦ elim (mem-cases x 0 (0 ∷ []) i) [ inl q ↦ q | inr j ↦ elim (mem-cases x 0 [] j) [ inl q ↦ q | inr k ↦ absurd (mem-nil x k) ] ]
        ]

one-point : Manifold (triple 0 0 0 ∷ []) × (nonmanifold (triple 0 0 0 ∷ []) ≡ true)
unfolding surface_edges edges_twice surface_link grow reach one_cycle all_corners nonmanifold
one-point = (
  record {
    edges = λ f m u v p q n. absurd (n (only_zero u f m p ∙ sym (only_zero v f m q)));
    links = λ v x y hx hy. absurd (hx.differ (only_zero v hx.face hx.listed hx.corner ∙ sym (only_zero x hx.face hx.listed hx.other)));
  },
  refl,
)

-- a triangle with its other side is a closed manifold, and the link of a vertex is one edge twice
two-sided : Manifold (triple 0 1 2 ∷ triple 0 2 1 ∷ [])
unfolding surface_edges edges_twice surface_link grow reach one_cycle all_corners nonmanifold
two-sided = manifold-elim (triple 0 1 2 ∷ triple 0 2 1 ∷ []) different refl
  where
    different : Different (triple 0 1 2 ∷ triple 0 2 1 ∷ [])
    different f m =
        elim (Memᴰ.cases_cons m) [
          | inl q ↦ rw q (refl, (refl, (refl, tt)))
          | inr k ↦ elim (Memᴰ.cases_cons k) [ inl q ↦ rw q (refl, (refl, (refl, tt))) | inr n ↦ absurd (Memᴰ.not-nil n) ]
        ]
