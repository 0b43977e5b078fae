-- How many words the rows of each kind have. Laws that the impls of src/ cite; assumes nothing.
use Rattle.std.specs.Prelude.{◌≡◌, ℕ, suc, Bool, true, false, cond, List, [], ◌∷◌, length, refl, nat_le, Float}
use Rattle.std.proofs.Common.{ap, ◌∙◌}
use Rattle.geometry.specs.declared.bounds.Options.{Options}
use Rattle.mesh.specs.declared.element.Tet.{Tet}
use Rattle.mesh.specs.Element.{vertices_of}
use Rattle.mesh.specs.Sort.{insert, sort}
use Rattle.mesh.specs.inside.Intake.{vertex_row}
use Rattle.mesh.specs.inside.Group.{group_row_at}
use Rattle.mesh.specs.inside.Surface.{face_at, face_row}
use Rattle.mesh.specs.inside.Manifold.{edge_row, link_row}
use Rattle.mesh.specs.inside.Euler.{vertex_row_at, edge_row_at, triangle_row_at}
use Rattle.mesh.specs.inside.LinkRows.{element_row_at}

pub vertex_row-wide : (s : List ℕ) (j : ℕ) → length (vertex_row_at s j) ≡ 1
unfolding vertex_row_at
vertex_row-wide s j = refl

pub edge_row-wide : (s : List ℕ) (j : ℕ) → length (edge_row_at s j) ≡ 2
unfolding edge_row_at
edge_row-wide s j = refl

pub triangle_row-wide : (s : List ℕ) (j : ℕ) → length (triangle_row_at s j) ≡ 3
unfolding triangle_row_at
triangle_row-wide s j = refl

pub side_row-wide : (s : List ℕ) (j : ℕ) → length (edge_row s j) ≡ 2
unfolding edge_row
side_row-wide s j = refl

pub link_row-wide : (s : List ℕ) (j : ℕ) → length (link_row s j) ≡ 4
unfolding link_row
link_row-wide s j = refl

-- the row of the face with the number j
unfoldable pub face_row_at : List ℕ → ℕ → List ℕ
face_row_at s j = face_row (face_at s j) j

pub face_row-wide : (s : List ℕ) (j : ℕ) → length (face_row_at s j) ≡ 4
unfolding face_row_at
face_row-wide s j = refl

pub element_row-wide : (a b : ℕ) (s : List ℕ) (j : ℕ) → length (element_row_at a b s j) ≡ 4
unfolding element_row_at
element_row-wide a b s j = refl

pub group_row-wide : (o : Options) (s : List Float) (v : ℕ) → length (group_row_at o s v) ≡ 7
unfolding group_row_at
group_row-wide o s v = refl

-- a sort has as many numbers as the list
length-insert : (x : ℕ) (l : List ℕ) → length (insert nat_le x l) ≡ suc (length l)
unfolding insert
length-insert x [] = refl
length-insert x (y ∷ l) = go (nat_le x y) (length-insert x l)
  where
    go : (b : Bool) → length (insert nat_le x l) ≡ suc (length l) → length (cond b (x ∷ y ∷ l) (y ∷ insert nat_le x l)) ≡ suc (suc (length l))
    go true h = refl
    go false h = ap suc h

length-sort : (l : List ℕ) → length (sort nat_le l) ≡ length l
unfolding sort
length-sort [] = refl
length-sort (x ∷ l) = length-insert x (sort nat_le l) ∙ ap suc (length-sort l)

pub sorted_row-wide : (t : Tet) → length (vertex_row t) ≡ 4
unfolding vertex_row
sorted_row-wide t = length-sort (vertices_of t)
