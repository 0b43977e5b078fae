-- The face rows sorted and scanned give the boundary: the number of the first bad run is that of the first bad key, and the faces
-- gathered, sorted as triples, are the surface. Assumes nothing.
use Rattle.std.proofs.Common.{◌≡◌, ℕ, ◌*◌, Bool, true, false, cond, ltb, List, [], ◌∷◌, map, length, get_or, sym, refl, ap, ◌∙◌, subst, arith}
use mathlib.Core.List.{map-map}
use Rattle.mesh.specs.declared.element.Triple.{Triple}
use Rattle.mesh.specs.Tests.{every}
use Rattle.mesh.specs.Sort.{sort}
use Rattle.mesh.specs.inside.Sort.{headed, ordered}
use Rattle.mesh.specs.inside.Rows.{le_row}
use Rattle.mesh.specs.Element.{tets, key_of}
use Rattle.mesh.specs.Boundary.{same_triple, le_triple, all_faces, first_number, boundary_number, singles, boundary_of}
use Rattle.mesh.specs.Words.{numbers}
use Rattle.mesh.specs.inside.Surface.{face_at, face_row, face_rows, bad_run, lone, same_key, face_in, same_parity, face_area, gathered}
use Rattle.mesh.proofs.Laws.Bools.{and_intro, and_left, and_right}
use Rattle.mesh.proofs.Laws.Sort.{ordered-sort, length-sort}
use Rattle.mesh.proofs.Laws.Rows.{le_row-total}
use Rattle.mesh.proofs.Laws.Boundary.Order.{le-corners, eq-corners, sort-map, triples-same, triples-unique}
use Rattle.mesh.proofs.Laws.Boundary.Same.{Same, sort-rearranges, same_map, same_count, sort-every}
use Rattle.mesh.proofs.Laws.Boundary.Kinds.{bad-map, lone-map}
use Rattle.mesh.proofs.Laws.Boundary.Runs.{alike, level, first-same, singles-same, scan-number, scan-lone}
use Rattle.mesh.proofs.Laws.NumbersFrom.{numbers-below}
use Rattle.mesh.proofs.Laws.Boundary.Faces.{every_map, faces-are}

-- ---- rows in order have keys in order

le_step : (x y : ℕ) (a b a' b' : List ℕ) → (le_row a b ≡ true → le_row a' b' ≡ true) → le_row (x ∷ a) (y ∷ b) ≡ true → le_row (x ∷ a') (y ∷ b') ≡ true
unfolding le_row
le_step x y a b a' b' f h = go (ltb x y) (ltb y x) h
  where
    go : (s t : Bool) → cond s true (cond t false (le_row a b)) ≡ true → cond s true (cond t false (le_row a' b')) ≡ true
    go true t h = refl
    go false true h = h
    go false false h = f h

key-le : (f g : Triple) (m k : ℕ) → le_row (face_row f m) (face_row g k) ≡ true → le_triple (key_of f) (key_of g) ≡ true
unfolding le_row
key-le f g m k h =
    let p = key_of f in
    let q = key_of g in
    sym (le-corners p q)
    ∙ le_step p.a q.a (p.b ∷ p.c ∷ m ∷ []) (q.b ∷ q.c ∷ k ∷ []) (p.b ∷ p.c ∷ []) (q.b ∷ q.c ∷ [])
    (le_step p.b q.b (p.c ∷ m ∷ []) (q.c ∷ k ∷ []) (p.c ∷ []) (q.c ∷ []) (le_step p.c q.c (m ∷ []) (k ∷ []) [] [] (λ e. refl))) h

ordered-map : {A B : Type 0} (h : A → B) (le_a : A → A → Bool) (le_b : B → B → Bool) → ((x y : A) → le_a x y ≡ true → le_b (h x) (h y) ≡ true)
    → (l : List A) → ordered le_a l ≡ true → ordered le_b (map h l) ≡ true
unfolding ordered headed
ordered-map h le_a le_b e [] k = refl
ordered-map h le_a le_b e (x ∷ []) k = refl
ordered-map h le_a le_b e (x ∷ y ∷ l) k =
    and_intro (le_b (h x) (h y)) (ordered le_b (map h (y ∷ l))) (e x y (and_left (le_a x y) (ordered le_a (y ∷ l)) k)) (ordered-map h le_a le_b e (y ∷ l) (and_right (le_a x y) (ordered le_a (y ∷ l)) k))

-- ---- the sorted rows, by the numbers of their faces

module _ (n : ℕ) (s : List ℕ) where
  abbrev row : ℕ → List ℕ
  row m = face_row (face_at s m) m

  abbrev before : ℕ → ℕ → Bool
  before m k = le_row (row m) (row k)

  -- the numbers in the order of their rows
  abbrev in_order : List ℕ
  in_order = sort before (numbers 0 (4 * n))

  -- their faces
  abbrev scanned : List Triple
  scanned = map (face_at s) in_order

  rows_are : sort le_row (face_rows n s) ≡ map row in_order
  unfolding face_rows
  rows_are = sort-map row before le_row (λ x y. refl) (numbers 0 (4 * n))

  rearranged : Same scanned (all_faces (tets n s))
  rearranged = subst (λ (u : List Triple). Same scanned u) (faces-are s n) (same_map in_order (numbers 0 (4 * n)) (sort-rearranges before (numbers 0 (4 * n))) (face_at s))

  keys-ordered : ordered le_triple (map key_of scanned) ≡ true
  keys-ordered =
      ap (ordered le_triple) (map-map key_of (face_at s) in_order)
      ∙ ordered-map (λ m. key_of (face_at s m)) before le_triple (λ m k. key-le (face_at s m) (face_at s k) m k) in_order (ordered-sort before (λ m k. le_row-total (row m) (row k)) (numbers 0 (4 * n)))

  keys-are : map key_of scanned ≡ sort le_triple (map key_of (all_faces (tets n s)))
  keys-are = triples-unique (map key_of scanned) (map key_of (all_faces (tets n s))) keys-ordered (λ f. same_count (map key_of scanned) (map key_of (all_faces (tets n s))) (same_map scanned (all_faces (tets n s)) rearranged key_of) same_triple f)

  -- the tests on numbers
  abbrev same_n : ℕ → ℕ → Bool
  same_n m k = alike (face_at s m) (face_at s k)

  abbrev level_n : ℕ → ℕ → Bool
  level_n m k = level (face_at s m) (face_at s k)

  same_row : (m k : ℕ) → same_key (row m) (row k) ≡ same_n m k
  same_row m k = eq-corners (key_of (face_at s m)) (key_of (face_at s k))

  scan-bad : bad_run same_key (same_parity s) (map row in_order) ≡ bad_run alike level scanned
  scan-bad =
      bad-map row same_n level_n same_key (same_parity s) same_row (λ m k. refl) in_order
      ∙ sym (bad-map (face_at s) same_n level_n alike level (λ m k. refl) (λ m k. refl) in_order)

  scan-faces : map (face_in s) (lone same_key (same_parity s) (map row in_order)) ≡ lone alike level scanned
  scan-faces =
      ap (map (face_in s)) (lone-map row same_n level_n same_key (same_parity s) same_row (λ m k. refl) in_order)
      ∙ map-map (face_in s) row (lone same_n level_n in_order)
      ∙ sym (lone-map (face_at s) same_n level_n alike level (λ m k. refl) (λ m k. refl) in_order)

  scan-is : bad_run alike level scanned ≡ boundary_number (tets n s)
  unfolding boundary_number
  scan-is = scan-number scanned keys-ordered ∙ first-same scanned (all_faces (tets n s)) rearranged (map key_of scanned) ∙ ap (first_number (all_faces (tets n s))) keys-are

  surface-is : boundary_number (tets n s) ≡ 0 → sort le_triple (lone alike level scanned) ≡ boundary_of (tets n s)
  unfolding boundary_of
  surface-is e =
      ap (sort le_triple) (scan-lone scanned keys-ordered (scan-is ∙ e))
      ∙ triples-same (singles scanned) (singles (all_faces (tets n s))) (λ f. same_count (singles scanned) (singles (all_faces (tets n s))) (singles-same scanned (all_faces (tets n s)) rearranged) same_triple f)

  -- each row has the number of a face
  pub rows-known : every (λ r. ltb (get_or r 3 0) (4 * n)) (sort le_row (face_rows n s)) ≡ true
  unfolding face_rows
  rows-known =
      sort-every (λ r. ltb (get_or r 3 0) (4 * n)) le_row (map row (numbers 0 (4 * n)))
      (every_map row (λ r. ltb (get_or r 3 0) (4 * n)) (numbers 0 (4 * n)) ∙ numbers-below 0 (4 * n) (4 * n) (omega arith))

  -- ---- what the scan of an area of sorted rows gives

  module _ (e : face_area n s ≡ sort le_row (face_rows n s)) where
    pub area-number : bad_run same_key (same_parity s) (face_area n s) ≡ boundary_number (tets n s)
    area-number = ap (bad_run same_key (same_parity s)) (e ∙ rows_are) ∙ scan-bad ∙ scan-is

    gathered-are : gathered n s ≡ lone alike level scanned
    unfolding gathered
    gathered-are = ap (λ (u : List (List ℕ)). map (face_in s) (lone same_key (same_parity s) u)) (e ∙ rows_are) ∙ scan-faces

    pub area-surface : boundary_number (tets n s) ≡ 0 → sort le_triple (gathered n s) ≡ boundary_of (tets n s)
    area-surface z = ap (sort le_triple) gathered-are ∙ surface-is z

    pub area-count : boundary_number (tets n s) ≡ 0 → length (gathered n s) ≡ length (boundary_of (tets n s))
    area-count z = sym (length-sort le_triple (gathered n s)) ∙ ap length (area-surface z)
