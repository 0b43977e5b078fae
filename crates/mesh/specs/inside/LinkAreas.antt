-- The area of src/link/area.rt: what the link tests leave of it, and the rows that stand in it. For contracts of private functions and for
-- proofs; definitions only.
use Rattle.std.specs.Prelude.{◌≡◌, ℕ, ◌*◌, ◌≤◌, true, ◌≢◌, List, map, length, drop}
use Rattle.mesh.specs.declared.element.Tet.{Tet}
use Rattle.mesh.specs.declared.link.area.Area.{Area}
use Rattle.mesh.specs.Words.{flat}
use Rattle.mesh.specs.Sort.{sort}
use Rattle.mesh.specs.Tests.{every, nodup}
use Rattle.mesh.specs.Element.{tets, vertices_of}
use Rattle.mesh.specs.inside.Rows.{rows, le_row}
use Rattle.mesh.specs.inside.Group.{runs, same_first}
use Rattle.mesh.specs.inside.Manifold.{KeptBelow}
use Rattle.mesh.specs.inside.List.{stacked}
use Rattle.mesh.specs.inside.LinkRows.{face_rows, faces_alone, alone_faces, rows_of_faces}

-- the elements of an area
abbrev pub tets_of : Area → List Tet
tets_of x = tets x.n x.words.now

-- the table of marks behind the first 60 words an element
abbrev pub table_of : Area → List ℕ
table_of x = drop (60 * x.n) x.words.now

-- each has four different vertices
abbrev pub Proper : Area → Type 0
Proper x = every (λ t. nodup (vertices_of t)) (tets_of x) ≡ true

-- the same lent words, whatever stands in them, and as many elements
pub record Same (x₀ x : Area) : Type 0 where
  pub lent : x.words.ghost_name ≡ x₀.words.ghost_name
  pub count : x.n ≡ x₀.n

-- the elements are as they were
pub record Kept (x₀ x : Area) : Type 0 where
  pub same : Same x₀ x
  pub elements : KeptBelow (4 * x₀.n) x₀.words.now x.words.now

-- s is s₀ with the rows of the c boundary faces about the edge behind the first 16 n words, of sorted keys behind the n elements
pub record AloneRows (a b n : ℕ) (s₀ s : List ℕ) (c : ℕ) : Type 0 where
  pub number : c ≡ length (faces_alone a b (runs (same_first 3) (rows 3 (4 * n) (drop (4 * n) s₀))))
  pub few : c ≤ 4 * n
  pub area : s ≡ stacked (map (λ f. flat (face_rows a b f)) (faces_alone a b (runs (same_first 3) (rows 3 (4 * n) (drop (4 * n) s₀))))) 9 (16 * n) s₀

-- m sorted rows behind the first 16 words an element are those of the boundary faces about the edge
pub record EdgeRows (a b m : ℕ) (x : Area) : Type 0 where
  pub fewer : m ≤ 12 * x.n
  pub apart : a ≢ b
  pub distinct : Proper x
  pub result : rows 3 m (drop (16 * x.n) x.words.now) ≡ sort le_row (rows_of_faces a b (alone_faces a b (tets_of x)))
