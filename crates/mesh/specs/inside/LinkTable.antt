-- The table s that src/link.rt keeps at the end of an area where many elements lie about an edge: 4,096 words, a vertex v at the place
-- v % 4096. A word tells which of the marks 1 and 2 elements with a vertex at that place have: one of them, or both by 3. The rows of a
-- simplex can be left out of the interior test where some vertex of it is not told with both marks. Nothing is asked of a word but what
-- `told_tet` tests. For contracts of private functions and for proofs; definitions only.
use Rattle.std.specs.Prelude.{ℕ, ◌%◌, Bool, not, ◌&&◌, ◌||◌, List, ◌==◌, slice_index}
use Rattle.mesh.specs.declared.element.Tet.{Tet}
use Rattle.mesh.specs.declared.element.Triple.{Triple}
use Rattle.mesh.specs.Words.{word_at}
use Rattle.mesh.specs.Element.{vertices_of}
use Rattle.mesh.specs.inside.LinkRows.{mark, link_face}

-- the word of the vertex v
abbrev pub table_word : List ℕ → ℕ → ℕ
table_word s v = word_at s (v % 4096)

-- v is told with the mark m, or with both by 3
abbrev pub told_mark : List ℕ → ℕ → ℕ → Bool
told_mark s m v = table_word s v == m || table_word s v == 3

-- three vertices are told with the mark m
abbrev pub told_face : List ℕ → ℕ → ℕ → ℕ → ℕ → Bool
told_face s m x y z = told_mark s m x && (told_mark s m y && told_mark s m z)

-- no vertex of a simplex is told with both marks
abbrev pub none_face : List ℕ → Triple → Bool
none_face s f = not (told_mark s 3 f.a) && (not (told_mark s 3 f.b) && not (told_mark s 3 f.c))

-- the three vertices of a row's simplex are told with both marks
unfoldable pub both_row : List ℕ → List ℕ → Bool
both_row s r = told_face s 3 (slice_index r 0) (slice_index r 1) (slice_index r 2)

-- where the mark m is 1 or 2, three vertices are told with it
abbrev pub told_words : List ℕ → ℕ → ℕ → ℕ → ℕ → Bool
told_words s m x y z = (m == 0 || m == 3) || told_face s m x y z

-- the vertices of an element's face in the link are told with its mark
unfoldable pub told_tet : List ℕ → ℕ → ℕ → Tet → Bool
told_tet s a b t = told_words s (mark a b (vertices_of t)) (link_face a b t).a (link_face a b t).b (link_face a b t).c
