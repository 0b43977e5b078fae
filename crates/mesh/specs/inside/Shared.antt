-- The faces that `flip` takes two-to-three (document 01, "Element and surface": "two-to-three over shared faces in key order", "only faces
-- .. of elements that are bad at the start of the pass are listed"), with the numbers of their two elements, as rows of five words.
-- For contracts of private functions and for proofs; definitions only.
use Rattle.std.specs.Prelude.{ℕ, ◌+◌, ◌-◌, ◌*◌, Bool, cond, not, ◌&&◌, List, [], ◌∷◌, ◌++◌, map, length, take, ◌==◌, nat_le, slice_index, slice_index_or}
use Rattle.geometry.specs.declared.point.Point.{Point}
use Rattle.mesh.specs.declared.element.Triple.{Triple}
use Rattle.mesh.specs.declared.element.Tet.{Tet}
use Rattle.mesh.specs.Words.{zero_words, flat}
use Rattle.mesh.specs.Sort.{sort, unique}
use Rattle.mesh.specs.Complex.{keep}
use Rattle.mesh.specs.Element.{faces_of, key_of, corners_of, tets}
use Rattle.mesh.specs.Boundary.{same_triple, le_triple, all_faces}
use Rattle.mesh.specs.inside.List.{bad_in}

-- ---- faces and their elements: every slot counts as an element, and one whose first word is 0xFFFFFFFF is not bad

-- of the elements numbered from i on, the numbers of those that have a face with the key f, as often as they have it
unfoldable pub owners_from : ℕ → Triple → List Tet → List ℕ
owners_from i f [] = []
owners_from i f (t ∷ ts) = map (λ g. i) (keep (same_triple f) (map key_of (faces_of t))) ++ owners_from (i + 1) f ts

-- the same of all elements
abbrev pub owners : List Tet → Triple → List ℕ
owners ts f = owners_from 0 f ts

-- has the face exactly two elements
abbrev pub has_two : List Tet → Triple → Bool
has_two ts f = length (owners ts f) == 2

-- "faces .. of elements that are bad", "in key order", each once
unfoldable pub bad_keys : List Point → List Tet → List Triple
bad_keys ps ts = unique same_triple (sort le_triple (map key_of (all_faces (keep (bad_in ps) ts))))

-- those that are shared
unfoldable pub shared_faces : List Point → List Tet → List Triple
shared_faces ps ts = keep (has_two ts) (bad_keys ps ts)

-- ---- as rows

-- the key, and the numbers of the two elements
abbrev pub shared_row : List Tet → Triple → List ℕ
shared_row ts f = corners_of f ++ owners ts f

-- at most 65,536 elements, and 44 words for each
unfoldable pub shared_fits : ℕ → ℕ → Bool
shared_fits n m = nat_le n 65536 && nat_le (44 * n) m

-- how many rows, and the area afterwards
pub record Shares : Type 0 where
  pub number : ℕ
  pub area : List ℕ

-- the elements as they were; behind them the rows, then zeros; none, and the area as it was, where it is too small
unfoldable pub shared_in : List Point → ℕ → List ℕ → Shares
shared_in ps n s =
    let rs = map (shared_row (tets n s)) (shared_faces ps (tets n s)) in
    cond (shared_fits n (length s))
    (record { number = length rs; area = take (4 * n) s ++ (flat rs ++ zero_words (length s - (4 * n + length (flat rs)))) })
    (record { number = 0; area = s })

-- ---- for the contracts of private functions

-- the row of a face: its key, the number of its element, and whether that is bad
abbrev pub owned_row : ℕ → ℕ → Triple → List ℕ
owned_row i b f = corners_of (key_of f) ++ (i ∷ b ∷ [])

-- 1 for a bad element, else 0
abbrev pub bad_mark : List Point → Tet → ℕ
bad_mark ps t = cond (bad_in ps t) 1 0

-- the rows of the faces of the elements numbered from i on
unfoldable pub owned_from : List Point → ℕ → List Tet → List (List ℕ)
owned_from ps i [] = []
owned_from ps i (t ∷ ts) = map (owned_row i (bad_mark ps t)) (faces_of t) ++ owned_from ps (i + 1) ts

-- the word k of the row m
abbrev pub word_of : List (List ℕ) → ℕ → ℕ → ℕ
word_of g m k = slice_index (slice_index_or g m []) k

-- is one of two rows that of a bad element
abbrev pub one_bad : List (List ℕ) → Bool
one_bad g = not (word_of g 0 4 == 0 && word_of g 1 4 == 0)

-- what a run of rows of one key gives: a row where it has two rows, one of them of a bad element
unfoldable pub run_row : List (List ℕ) → List (List ℕ)
run_row g =
    cond (length g == 2 && one_bad g)
    ((word_of g 0 0 ∷ word_of g 0 1 ∷ word_of g 0 2 ∷ word_of g 0 3 ∷ word_of g 1 3 ∷ []) ∷ [])
    []

-- the same of all runs
unfoldable pub runs_rows : List (List (List ℕ)) → List (List ℕ)
runs_rows [] = []
runs_rows (g ∷ gs) = run_row g ++ runs_rows gs
