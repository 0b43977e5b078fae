-- What stands in an area on the way to a boundary: face rows, runs of equal keys, the single faces. For contracts of private functions and
-- for proofs; definitions only.
use Rattle.std.specs.Prelude.{◌≡◌, ℕ, ◌+◌, ◌-◌, ◌*◌, ◌/◌, ◌%◌, ◌≤◌, Bool, true, cond, ◌&&◌, ltb, List, [], ◌∷◌, ◌++◌, map, length, take, drop, ◌==◌, nat_le, nat_lt, slice_index}
use Rattle.mesh.specs.declared.element.Tet.{Tet}
use Rattle.mesh.specs.declared.element.Triple.{Triple}
use Rattle.mesh.specs.declared.boundary.Run.{Run}
use Rattle.mesh.specs.declared.boundary.Run.TheVariants.{Single, Opposed, SameParity, Crowded}
use Rattle.mesh.specs.Words.{word_at, zero_words, numbers, flat}
use Rattle.mesh.specs.Tests.{every}
use Rattle.mesh.specs.inside.Rows.{rows, eq_row}
use Rattle.mesh.specs.Complex.{Nodup}
use Rattle.mesh.specs.Element.{tet, tets, faces_of, face_of, vertices_of, key_of, parity_of, corners_of}
use Rattle.mesh.specs.Boundary.{with_key, boundary_number}
use Rattle.mesh.specs.Surface.{Outcome, Refused, answer, surface_words, answer_of}

-- ---- the faces of one key

-- whether the element has a face with the key k
unfoldable pub has_key : Triple → Tet → Bool
has_key k t = nat_lt 0 (length (with_key k (faces_of t)))

-- each element has four different vertices
abbrev pub AllDistinct : List Tet → Type 0
AllDistinct [] = Unit {0}
AllDistinct (t ∷ ts) = Nodup (vertices_of t) × AllDistinct ts

-- ---- within one area

-- at most 65,536 elements (`flip` may end with more than the 16,384 of a call), and 36 words for each
unfoldable pub area_fits : ℕ → ℕ → Bool
area_fits n area = nat_le n 65536 && nat_le (36 * n) area

-- an answer, and the area afterwards
pub record Filled : Type 0 where
  pub answer : Outcome
  pub area : List ℕ

-- the area after the call: the elements as they were, behind them the surface, and behind that zeros; all zeros where a key is bad
unfoldable pub area_after : ℕ → List ℕ → List ℕ
area_after n s =
    cond (boundary_number (tets n s) == 0)
    (take (4 * n) s ++ (surface_words (tets n s) ++ zero_words (length s - (4 * n + length (surface_words (tets n s))))))
    (zero_words (length s))

-- the boundary of n elements at the front of an area; 10 and all zeros where the area is too small or the elements are too many
unfoldable pub boundary_in : ℕ → List ℕ → Filled
boundary_in n s =
    cond (area_fits n (length s))
    (record { answer = answer_of (tets n s); area = area_after n s })
    (record { answer = Refused 10; area = zero_words (length s) })

-- ---- face rows, for the contracts of private functions

-- the face with the number m, 4 e + k for the face k of the element e, of the elements at the front of s
unfoldable pub face_at : List ℕ → ℕ → Triple
face_at s m = face_of (tet (word_at s (m / 4 * 4)) (word_at s (m / 4 * 4 + 1)) (word_at s (m / 4 * 4 + 2)) (word_at s (m / 4 * 4 + 3))) (m % 4)

-- the row of a face: its key and its number
abbrev pub face_row : Triple → ℕ → List ℕ
face_row f m = (key_of f).a ∷ (key_of f).b ∷ (key_of f).c ∷ m ∷ []

-- the rows of all faces of n elements
unfoldable pub face_rows : ℕ → List ℕ → List (List ℕ)
face_rows n s = map (λ m. face_row (face_at s m) m) (numbers 0 (4 * n))

-- ---- runs of equal keys

module _ {A : Type 0} (same level : A → A → Bool) where
  -- the run at the front, where `same` compares the keys and `level` the parities: 0 a single, 1 two of opposite parity, 17 two of equal
  -- parity, 16 three or more
  unfoldable pub kind : List A → ℕ
  kind [] = 0
  kind (x ∷ []) = 0
  kind (x ∷ y ∷ []) = cond (same x y) (cond (level x y) 17 1) 0
  kind (x ∷ y ∷ z ∷ l) = cond (same x y) (cond (same x z) 16 (cond (level x y) 17 1)) 0

  -- the number of the first bad run, 0 where none is bad
  unfoldable pub bad_run : List A → ℕ
  bad_run [] = 0
  bad_run (x ∷ []) = 0
  bad_run (x ∷ y ∷ l) = cond (kind (x ∷ y ∷ l) == 0) (bad_run (y ∷ l)) (cond (kind (x ∷ y ∷ l) == 1) (bad_run l) (kind (x ∷ y ∷ l)))

  -- the single ones before the first bad run
  unfoldable pub lone : List A → List A
  lone [] = []
  lone (x ∷ []) = x ∷ []
  lone (x ∷ y ∷ l) = cond (kind (x ∷ y ∷ l) == 0) (x ∷ lone (y ∷ l)) (cond (kind (x ∷ y ∷ l) == 1) (lone l) [])

-- two face rows with the same key
abbrev pub same_key : List ℕ → List ℕ → Bool
same_key r q = eq_row (take 3 r) (take 3 q)

-- the face of a row
abbrev pub face_in : List ℕ → List ℕ → Triple
face_in s r = face_at s (slice_index r 3)

-- two face rows of equal parity
abbrev pub same_parity : List ℕ → List ℕ → List ℕ → Bool
same_parity s r q = parity_of (face_in s r) == parity_of (face_in s q)

-- the run at the front of face rows
unfoldable pub kind_at : List ℕ → List (List ℕ) → ℕ
kind_at s rs = kind same_key (same_parity s) rs

-- the number of a run's kind
abbrev pub run_number : Run → ℕ
run_number Single = 0
run_number Opposed = 1
run_number SameParity = 17
run_number Crowded = 16

-- the face rows of n elements
abbrev pub face_area : ℕ → List ℕ → List (List ℕ)
face_area n s = rows 4 (4 * n) (drop (4 * n) s)

-- face rows stand behind n elements, each with the number of a face of theirs
pub record FaceArea (n : ℕ) (s : List ℕ) : Type 0 where
  pub few : n ≤ 65536
  pub room : 36 * n ≤ length s
  pub known : every (λ r. ltb (slice_index r 3) (4 * n)) (face_area n s) ≡ true

-- the single faces, in the order of the rows
unfoldable pub gathered : ℕ → List ℕ → List Triple
gathered n s = map (face_in s) (lone same_key (same_parity s) (face_area n s))

-- s is s₀ with the words of the single faces behind the elements, and r is the answer
pub record Gathered (n : ℕ) (s₀ s : List ℕ) (r : Outcome) : Type 0 where
  pub result : r ≡ answer (bad_run same_key (same_parity s₀) (face_area n s₀)) (length (gathered n s₀))
  pub front : take (4 * n + 3 * length (gathered n s₀)) s ≡ take (4 * n) s₀ ++ flat (map corners_of (gathered n s₀))
