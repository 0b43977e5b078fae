-- How many vertices, edges and triangles a list of elements uses (document 01, the table's `euler`), as `src/euler.rt` counts them: the rows
-- of each size are listed, sorted, and equal neighbours taken out. proofs/Laws/Euler has the law that these are the numbers of faces of
-- the complex, and their alternating sum its alternating count. For contracts of private functions and for proofs; definitions only.
use Rattle.std.specs.Prelude.{ℕ, ◌+◌, ◌-◌, ◌*◌, ◌/◌, ◌%◌, min, max, Bool, cond, ◌&&◌, List, [], ◌∷◌, ◌++◌, map, length, take, ℤ, nat_le, slice_index_or}
use Rattle.std.proofs.Math.IntN.{sub_ℕ}
use Rattle.mesh.specs.declared.element.Pair.{Pair}
use Rattle.mesh.specs.declared.element.Tet.{Tet}
use Rattle.mesh.specs.declared.euler.Counts.{Counts}
use Rattle.mesh.specs.Words.{word_at, zero_words}
use Rattle.mesh.specs.Sort.{sort, unique}
use Rattle.mesh.specs.inside.Rows.{le_row, eq_row}
use Rattle.mesh.specs.Element.{pair, faces_of, face_of, key_of, corners_of, vertices_of, tets}
use Rattle.mesh.specs.inside.Intake.{tet_at}

-- ---- the simplices of an element

-- the six edges of an element: a b, a c, a d, b c, b d, c d
abbrev pub ends_of : Tet → List Pair
ends_of t = pair t.a t.b ∷ pair t.a t.c ∷ pair t.a t.d ∷ pair t.b t.c ∷ pair t.b t.d ∷ pair t.c t.d ∷ []

-- the edge k of an element, in that order from 0; from 5 on the last
abbrev pub ends_at : Tet → ℕ → Pair
ends_at t k = slice_index_or (ends_of t) k (pair t.c t.d)

-- an edge as a row, its smaller vertex first
abbrev pub rising_row : Pair → List ℕ
rising_row e = min e.a e.b ∷ max e.a e.b ∷ []

-- the rows of an element's vertices, edges and triangles, each with its vertices in rising order
abbrev pub vertex_rows : Tet → List (List ℕ)
vertex_rows t = map (λ v. v ∷ []) (vertices_of t)

abbrev pub edge_rows : Tet → List (List ℕ)
edge_rows t = map rising_row (ends_of t)

abbrev pub triangle_rows : Tet → List (List ℕ)
triangle_rows t = map (λ f. corners_of (key_of f)) (faces_of t)

-- the rows of all elements
unfoldable pub spread : (Tet → List (List ℕ)) → List Tet → List (List ℕ)
spread f [] = []
spread f (t ∷ ts) = f t ++ spread f ts

-- ---- the counts

-- how many different rows
unfoldable pub different : List (List ℕ) → ℕ
different rs = length (unique eq_row (sort le_row rs))

unfoldable pub counts_of : List Tet → Counts
counts_of ts = record {
  vertices = different (spread vertex_rows ts);
  edges = different (spread edge_rows ts);
  triangles = different (spread triangle_rows ts);
  elements = length ts;
}

-- the alternating sum
abbrev pub alternating_of : Counts → ℤ
alternating_of c = sub_ℕ (c.vertices + c.triangles) (c.edges + c.elements)

-- ---- within one area

-- at most 65,536 elements, and 28 words for each
unfoldable pub count_fits : ℕ → ℕ → Bool
count_fits n m = nat_le n 65536 && nat_le (28 * n) m

-- the counts, and the area afterwards
pub record Counted : Type 0 where
  pub counts : Counts
  pub area : List ℕ

-- the elements as they were, with zeros behind them; no counts, and the area as it was, where it is too small
unfoldable pub counted_in : ℕ → List ℕ → Counted
counted_in n s =
    cond (count_fits n (length s))
    (record { counts = counts_of (tets n s); area = take (4 * n) s ++ zero_words (length s - 4 * n) })
    (record { counts = record { vertices = 0; edges = 0; triangles = 0; elements = 0 }; area = s })

-- ---- rows by number, for the contracts of private functions

-- the vertex j of the elements at the front of s, 4 e + k for the vertex k of the element e
unfoldable pub vertex_row_at : List ℕ → ℕ → List ℕ
vertex_row_at s j = word_at s j ∷ []

-- the edge j of the elements at the front of s, 6 e + k for the edge k of the element e
unfoldable pub edge_row_at : List ℕ → ℕ → List ℕ
edge_row_at s j = rising_row (ends_at (tet_at s (j / 6)) (j % 6))

-- the triangle j, 4 e + k for the face k of the element e
unfoldable pub triangle_row_at : List ℕ → ℕ → List ℕ
triangle_row_at s j = corners_of (key_of (face_of (tet_at s (j / 4)) (j % 4)))
