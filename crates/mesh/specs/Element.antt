-- Elements, their edges and faces, and a face's key and parity (document 01, "Runs of passes"; `tet_faces`, `face_key` and `face_parity` of
-- lib.rs). Definitions only.
use Rattle.std.specs.Prelude.{ℕ, zero, suc, ◌+◌, ◌%◌, min, max, Bool, true, false, cond, ◌&&◌, List, [], ◌∷◌, ◌++◌, drop, ◌==◌, nat_le, nat_lt, slice_index, slice_index_or}
use Rattle.mesh.specs.declared.element.Tet.{Tet}
use Rattle.mesh.specs.declared.element.Triple.{Triple}
use Rattle.mesh.specs.declared.element.Pair.{Pair}
use Rattle.mesh.specs.Complex.{mem, sub}

abbrev pub pair : ℕ → ℕ → Pair
pair a b = record { a = a; b = b }

abbrev pub triple : ℕ → ℕ → ℕ → Triple
triple a b c = record { a = a; b = b; c = c }

abbrev pub tet : ℕ → ℕ → ℕ → ℕ → Tet
tet a b c d = record { a = a; b = b; c = c; d = d }

-- "An element a b c d has the faces a b d, a c b, a d c and b c d"
abbrev pub faces_of : Tet → List Triple
faces_of t = triple t.a t.b t.d ∷ triple t.a t.c t.b ∷ triple t.a t.d t.c ∷ triple t.b t.c t.d ∷ []

-- the face k of an element, in that order from 0; from 3 on the last
abbrev pub face_of : Tet → ℕ → Triple
face_of t k = slice_index_or (faces_of t) k (triple t.b t.c t.d)

-- the three numbers with the first two, or the last two, exchanged where they fall
unfoldable pub sort_first : Triple → Triple
sort_first f = cond (nat_lt f.b f.a) (triple f.b f.a f.c) f

unfoldable pub sort_last : Triple → Triple
sort_last f = cond (nat_lt f.c f.b) (triple f.a f.c f.b) f

-- "A face's key is its three numbers sorted"
unfoldable pub key_of : Triple → Triple
unfolding sort_first sort_last
key_of f = sort_first (sort_last (sort_first f))

-- 1 where x is above y, else 0
abbrev pub above : ℕ → ℕ → ℕ
above x y = cond (nat_lt y x) 1 0

-- "its parity is 1 where an odd number of exchanges sorts it, else 0": each pair that stands in falling order is one exchange of neighbours
unfoldable pub parity_of : Triple → ℕ
parity_of f = (above f.a f.b + above f.a f.c + above f.b f.c) % 2

-- the first n elements of a list of words, four words each; a word past the end counts as 0
unfoldable pub tets : ℕ → List ℕ → List Tet
tets zero s = []
tets (suc n) s = tet (slice_index s 0) (slice_index s 1) (slice_index s 2) (slice_index s 3) ∷ tets n (drop 4 s)

-- the first n triples of a list of words, three words each; a word past the end counts as 0
unfoldable pub triples : ℕ → List ℕ → List Triple
triples zero s = []
triples (suc n) s = triple (slice_index s 0) (slice_index s 1) (slice_index s 2) ∷ triples n (drop 3 s)

-- the vertices of an element as a list
abbrev pub vertices_of : Tet → List ℕ
vertices_of t = t.a ∷ t.b ∷ t.c ∷ t.d ∷ []

-- the vertices of a face as a list
abbrev pub corners_of : Triple → List ℕ
corners_of f = f.a ∷ f.b ∷ f.c ∷ []

-- the vertices of all elements, in order
unfoldable pub all_vertices : List Tet → List ℕ
all_vertices [] = []
all_vertices (t ∷ ts) = vertices_of t ++ all_vertices ts

-- the corners of all triples, in order
unfoldable pub all_corners : List Triple → List ℕ
all_corners [] = []
all_corners (f ∷ fs) = corners_of f ++ all_corners fs

-- the edge u v, its smaller vertex first
abbrev pub edge : ℕ → ℕ → Pair
edge u v = pair (min u v) (max u v)

-- the six edges of an element
abbrev pub edges_of : Tet → List Pair
edges_of t =
    edge t.a t.b ∷ edge t.a t.c ∷ edge t.a t.d ∷ edge t.b t.c ∷ edge t.b t.d ∷ edge t.c t.d ∷ []

-- the edges of all elements
unfoldable pub all_edges : List Tet → List Pair
all_edges [] = []
all_edges (t ∷ ts) = edges_of t ++ all_edges ts

-- the same two numbers in the same places
abbrev pub same_pair : Pair → Pair → Bool
same_pair e f = e.a == f.a && e.b == f.b

-- e no later than f by their numbers
abbrev pub le_pair : Pair → Pair → Bool
le_pair e f = cond (nat_lt e.a f.a) true (cond (nat_lt f.a e.a) false (nat_le e.b f.b))

-- is v a vertex of the element
abbrev pub has : ℕ → Tet → Bool
has v t = mem v (vertices_of t)

-- has the element all of these vertices
abbrev pub has_all : List ℕ → Tet → Bool
has_all σ t = sub σ (vertices_of t)
