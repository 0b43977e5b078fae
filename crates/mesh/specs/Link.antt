-- The links of an edge (document 01, "Element and surface"; `link_ok` of repair.rs). A simplex is the list of its vertices in rising order,
-- and the link of a set of vertices is a set of simplices. Interior links are those of Dey et al.: Lk a ∩ Lk b = Lk ab. The boundary
-- test is the Rust's: the same of the faces about the edge that lie in one element. Definitions only.
use Rattle.std.specs.Prelude.{ℕ, Bool, true, false, cond, not, ◌&&◌, ◌||◌, List, [], ◌∷◌, ◌++◌, map, ◌==◌, nat_eq, nat_le}
use Rattle.mesh.specs.declared.element.Tet.{Tet}
use Rattle.mesh.specs.declared.element.Triple.{Triple}
use Rattle.mesh.specs.Sort.{sort}
use Rattle.mesh.specs.Complex.{mem, sub, keep, choose}
use Rattle.mesh.specs.Sets.{both, same_set, times}
use Rattle.mesh.specs.Element.{vertices_of, corners_of, key_of}
use Rattle.mesh.specs.Boundary.{same_triple, all_faces}

-- the same vertices
abbrev pub same_simplex : List ℕ → List ℕ → Bool
same_simplex [] [] = true
same_simplex [] (y ∷ ys) = false
same_simplex (x ∷ xs) [] = false
same_simplex (x ∷ xs) (y ∷ ys) = x == y && same_simplex xs ys

-- every set of one, two or three of the vertices, in their order
abbrev pub subsets : List ℕ → List (List ℕ)
subsets vs = choose 1 vs ++ (choose 2 vs ++ choose 3 vs)

-- the vertices vs but those of σ
abbrev pub without : List ℕ → List ℕ → List ℕ
without σ vs = keep (λ v. not (mem v σ)) vs

-- Lk σ: for every simplex of the list that has all of σ, each set of its other vertices
unfoldable pub link : List ℕ → List (List ℕ) → List (List ℕ)
link σ [] = []
link σ (τ ∷ τs) = cond (sub σ τ) (subsets (sort nat_le (without σ τ))) [] ++ link σ τs

-- Lk a ∩ Lk b = Lk ab
unfoldable pub links_meet : ℕ → ℕ → List (List ℕ) → Bool
links_meet a b τs = same_set same_simplex (both same_simplex (link (a ∷ []) τs) (link (b ∷ []) τs)) (link (a ∷ b ∷ []) τs)

-- "interior links meet exactly in the edge's link"
unfoldable pub interior_ok : ℕ → ℕ → List Tet → Bool
interior_ok a b ts = links_meet a b (map vertices_of ts)

-- the keys of all faces that have a or b, as often as elements have them
unfoldable pub keys_about : ℕ → ℕ → List Tet → List Triple
keys_about a b ts = keep (λ f. mem a (corners_of f) || mem b (corners_of f)) (map key_of (all_faces ts))

-- the keys of those faces that lie in one element
unfoldable pub boundary_about : ℕ → ℕ → List Tet → List Triple
boundary_about a b ts = keep (λ f. nat_eq (times same_triple f (keys_about a b ts)) 1) (keys_about a b ts)

-- "boundary links too"
unfoldable pub boundary_ok : ℕ → ℕ → List Tet → Bool
boundary_ok a b ts = links_meet a b (map corners_of (boundary_about a b ts))
