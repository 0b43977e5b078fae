-- The link tests of an edge a b by sorted rows, as src/link.rt works them out. A row is a simplex of a link, its vertices in rising order and the
-- last one repeated up to the width of a row, and behind it the mark of the simplex that it comes from: 1 with a only, 2 with b only, 3 with
-- both, 0 with neither. A run of the same simplex fails where it has the marks 1 and 2 and not 3. proofs/Laws/LinkRows has the laws that these tests are
-- those of `link_ok`. For contracts of private functions and for proofs; definitions only.
use Rattle.std.specs.Prelude.{ℕ, ◌/◌, ◌%◌, Bool, cond, not, ◌&&◌, ◌||◌, List, [], ◌∷◌, ◌++◌, map, length, get_or, ◌==◌, nat_le, nat_lt, slice_index, slice_index_or}
use Rattle.geometry.specs.Bounds.{stratum}
use Rattle.mesh.specs.declared.element.Pair.{Pair}
use Rattle.mesh.specs.declared.element.Tet.{Tet}
use Rattle.mesh.specs.declared.element.Triple.{Triple}
use Rattle.mesh.specs.Sort.{sort}
use Rattle.mesh.specs.inside.Rows.{le_row}
use Rattle.mesh.specs.Complex.{mem}
use Rattle.mesh.specs.Tests.{every}
use Rattle.mesh.specs.Element.{pair, triple, vertices_of, corners_of, key_of}
use Rattle.mesh.specs.Link.{subsets}
use Rattle.mesh.specs.Feature.{shared}
use Rattle.mesh.specs.inside.Group.{runs, same_first}
use Rattle.mesh.specs.inside.Intake.{tet_at}
use Rattle.mesh.specs.inside.Euler.{spread, triangle_rows}

-- ---- marks

-- with a and b, with a only, with b only, with neither
abbrev pub mark_by : Bool → Bool → ℕ
mark_by has_a has_b = cond has_a (cond has_b 3 1) (cond has_b 2 0)

-- of a simplex
abbrev pub mark : ℕ → ℕ → List ℕ → ℕ
mark a b τ = mark_by (mem a τ) (mem b τ)

-- the end of the edge that a simplex with a or b is taken at
abbrev pub apex : ℕ → ℕ → List ℕ → ℕ
apex a b τ = cond (mem a τ) a b

-- ---- rows of elements

-- the vertices of an element but v; but its last where v is none of the others
unfoldable pub opposite : Tet → ℕ → Triple
opposite t v =
    cond (t.a == v) (triple t.b t.c t.d)
    (cond (t.b == v) (triple t.a t.c t.d) (cond (t.c == v) (triple t.a t.b t.d) (triple t.a t.b t.c)))

-- the face of an element opposite its end of the edge, as a key
abbrev pub link_face : ℕ → ℕ → Tet → Triple
link_face a b t = key_of (opposite t (apex a b (vertices_of t)))

-- one, two or three vertices as three words, the last one repeated
abbrev pub three_words : List ℕ → List ℕ
three_words [] = []
three_words (x ∷ []) = x ∷ x ∷ x ∷ []
three_words (x ∷ y ∷ []) = x ∷ y ∷ y ∷ []
three_words (x ∷ y ∷ z ∷ σ) = x ∷ y ∷ z ∷ []

-- the seven rows of an element
abbrev pub element_rows : ℕ → ℕ → Tet → List (List ℕ)
element_rows a b t = map (λ σ. three_words σ ++ (mark a b (vertices_of t) ∷ [])) (subsets (corners_of (link_face a b t)))

-- the sets of one, two or three of the vertices of a key as triples, in the order of `subsets`
unfoldable pub subset_at : Triple → ℕ → Triple
subset_at f k =
    cond (k == 0) (triple f.c f.c f.c)
    (cond (k == 1) (triple f.b f.b f.b)
    (cond (k == 2) (triple f.a f.a f.a)
    (cond (k == 3) (triple f.b f.c f.c)
    (cond (k == 4) (triple f.a f.c f.c) (cond (k == 5) (triple f.a f.b f.b) f)))))

-- the row j of the elements at the front of s, 7 e + k for the row k of the element e
unfoldable pub element_row_at : ℕ → ℕ → List ℕ → ℕ → List ℕ
element_row_at a b s j = corners_of (subset_at (link_face a b (tet_at s (j / 7))) (j % 7)) ++ (mark a b (vertices_of (tet_at s (j / 7))) ∷ [])

-- ---- rows of faces

-- the vertices of a face but v; but its last where v is none of the others
unfoldable pub beside : Triple → ℕ → Pair
beside f v = cond (f.a == v) (pair f.b f.c) (cond (f.b == v) (pair f.a f.c) (pair f.a f.b))

-- the edge of a face opposite its end of the edge a b
abbrev pub link_pair : ℕ → ℕ → Triple → Pair
link_pair a b f = beside f (apex a b (corners_of f))

-- one or two vertices as two words, the last one repeated
abbrev pub two_words : List ℕ → List ℕ
two_words [] = []
two_words (x ∷ []) = x ∷ x ∷ []
two_words (x ∷ y ∷ σ) = x ∷ y ∷ []

-- the three rows of a face
abbrev pub face_rows : ℕ → ℕ → Triple → List (List ℕ)
face_rows a b f = map (λ σ. two_words σ ++ (mark a b (corners_of f) ∷ [])) (subsets ((link_pair a b f).a ∷ (link_pair a b f).b ∷ []))

-- the face of a row of three words
abbrev pub face_in : List ℕ → Triple
face_in r = triple (slice_index r 0) (slice_index r 1) (slice_index r 2)

-- whether k equal keys f are one face with a or b
abbrev pub alone_about : ℕ → ℕ → ℕ → Triple → Bool
alone_about a b k f = k == 1 && nat_lt 0 (mark a b (corners_of f))

-- the face of a run of equal keys, if it is one and has a or b
abbrev pub run_faces : ℕ → ℕ → List (List ℕ) → List Triple
run_faces a b g = cond (alone_about a b (length g) (face_in (slice_index_or g 0 []))) (face_in (slice_index_or g 0 []) ∷ []) []

-- the faces of all runs
unfoldable pub faces_alone : ℕ → ℕ → List (List (List ℕ)) → List Triple
faces_alone a b [] = []
faces_alone a b (g ∷ gs) = run_faces a b g ++ faces_alone a b gs

-- the faces with a or b that lie in one element, in key order
unfoldable pub alone_faces : ℕ → ℕ → List Tet → List Triple
alone_faces a b ts = faces_alone a b (runs (same_first 3) (sort le_row (spread triangle_rows ts)))

-- the rows of all faces
unfoldable pub rows_of_faces : ℕ → ℕ → List Triple → List (List ℕ)
rows_of_faces a b [] = []
rows_of_faces a b (f ∷ fs) = face_rows a b f ++ rows_of_faces a b fs

-- ---- runs

-- whether a row of the run has the mark m, k words behind its start
abbrev pub marked : ℕ → ℕ → List (List ℕ) → Bool
marked k m g = not (every (λ r. not (slice_index r k == m)) g)

-- a simplex of Lk a and Lk b is one of Lk ab
abbrev pub meet_run : ℕ → List (List ℕ) → Bool
meet_run k g = marked k 3 g || not (marked k 1 g && marked k 2 g)

-- `rim_ok` and `curve_ok` of a vertex that shares sa bits with a and sb bits with b, by whether it lies on a boundary face with a only, with b
-- only, with both; `ab`: some boundary face has both
abbrev pub rim_by : ℕ → ℕ → Bool → Bool → Bool → Bool
rim_by sa sb only_a only_b both = not (nat_le 2 sb) || ((only_a || only_b) && ((only_b || both) || sa == sb))

abbrev pub curve_by : ℕ → Bool → Bool → Bool → Bool → Bool
curve_by sa only_a only_b both ab = not (nat_le 2 sa) || not (ab && ((only_a || both) && (only_b || both)))

-- both tests of the vertex x
abbrev pub vertex_by : (ℕ → ℕ) → ℕ → ℕ → Bool → ℕ → Bool → Bool → Bool → Bool
vertex_by stratum a b ab x only_a only_b both =
    rim_by (length (shared (stratum a) (stratum x))) (length (shared (stratum b) (stratum x))) only_a only_b both
    && curve_by (length (shared (stratum a) (stratum x))) only_a only_b both ab

-- the same for a run of rows of faces: an edge, a and b pass
unfoldable pub feature_run : (ℕ → ℕ) → ℕ → ℕ → Bool → List (List ℕ) → Bool
feature_run stratum a b ab g =
    let x = get_or (slice_index_or g 0 []) 0 0 in
    not (x == slice_index (slice_index_or g 0 []) 1) || (x == a || (x == b || vertex_by stratum a b ab x (marked 2 1 g) (marked 2 2 g) (marked 2 3 g)))
