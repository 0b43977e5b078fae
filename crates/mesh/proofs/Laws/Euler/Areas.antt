-- The rows of simplices in an area: listed behind the elements, they are those of the definition, and they are counted and cleared.
-- Assumes nothing.
use Rattle.std.proofs.Common.{◌≡◌, ℕ, zero, suc, ◌+◌, ◌-◌, ◌*◌, ◌/◌, ◌%◌, ◌<◌, ◌≤◌, true, false, ltb, leb, List, [], ◌∷◌, ◌++◌, map, length, get_or, take, drop, sym, refl, ap, ◌∙◌, ap₂, le_refl, arith, length-drop, take-take, get_or-drop, get_or-take, drop-drop, lt-ltb, le-leb}
use mathlib.Core.List.{map-append}
use borrow.Rule.Slice.PartMut.{mid_of, put_mid}
use Rattle.mesh.specs.declared.element.Tet.{Tet}
use Rattle.mesh.specs.Words.{word_at, zero_words, numbers, flat}
use Rattle.mesh.specs.Sort.{unique}
use Rattle.mesh.specs.inside.Rows.{rows, eq_row, fit_rows, sorted_area, unique_rows, unique_area}
use Rattle.mesh.specs.Element.{tets, face_of, key_of, corners_of, vertices_of}
use Rattle.mesh.specs.inside.Intake.{tet_at}
use Rattle.mesh.specs.inside.Manifold.{filled, KeptBelow}
use Rattle.mesh.proofs.Laws.Bools.{and_intro}
use Rattle.mesh.proofs.Laws.NumbersFrom.{numbers-split}
use Rattle.mesh.proofs.Laws.Parts.{tail-mid, tail-put}
use Rattle.mesh.proofs.Laws.Keeping.{unique-is, length-unique-area}
use Rattle.mesh.proofs.Laws.Intake.Reads.{length-tets, tets-same}
use Rattle.mesh.proofs.Laws.Manifold.Fill.{fill-kept}
use Rattle.mesh.proofs.Laws.Manifold.Growth.{kept-both}
use Rattle.mesh.proofs.Laws.Manifold.Steps.{word_below, put-kept, sort-kept, sort-from-rows}
use Rattle.mesh.specs.inside.Euler.{ends_at, rising_row, vertex_rows, edge_rows, triangle_rows, spread, different, counts_of, count_fits, Counted, counted_in, vertex_row_at, edge_row_at, triangle_row_at}

-- ---- elements that are kept

pub tet-kept : (s₀ s : List ℕ) (n e : ℕ) → take (4 * n) s ≡ take (4 * n) s₀ → e < n → tet_at s e ≡ tet_at s₀ e
unfolding tet_at
tet-kept s₀ s n e q h = rw (at (4 * e) (omega arith), at (4 * e + 1) (omega arith), at (4 * e + 2) (omega arith), at (4 * e + 3) (omega arith)) refl
  where
    at : (j : ℕ) → j < 4 * n → word_at s j ≡ word_at s₀ j
    at j l = sym (get_or-take (4 * n) s j 0 l) ∙ ap (λ (u : List ℕ). get_or u j 0) q ∙ get_or-take (4 * n) s₀ j 0 l

pub tets-kept : (n : ℕ) {s₀ s : List ℕ} → KeptBelow (4 * n) s₀ s → tets n s ≡ tets n s₀
tets-kept n {s₀} {s} k = tets-same n s₀ s (λ j h. word_below k j h)

-- elements read from their words
pub tets-flat : (ts : List Tet) (x : List ℕ) → tets (length ts) (flat (map vertices_of ts) ++ x) ≡ ts
unfolding tets flat
tets-flat [] x = refl
tets-flat (t ∷ ts) x = ap (λ (l : List Tet). t ∷ l) (tets-flat ts x)

-- ---- rows by number

tets-from : (s : List ℕ) (i k : ℕ) → tets (suc k) (drop (4 * i) s) ≡ tet_at s i ∷ tets k (drop (4 * suc i) s)
unfolding tets tet_at
tets-from s i k =
    let e : 4 * i + 0 ≡ 4 * i = omega arith in
    let f : 4 * i + 4 ≡ 4 * suc i = omega arith in
    ap₂ (λ (t : Tet) (u : List ℕ). t ∷ tets k u)
    (rw (get_or-drop (4 * i) s 0 0, get_or-drop (4 * i) s 1 0, get_or-drop (4 * i) s 2 0, get_or-drop (4 * i) s 3 0, e) refl)
    (drop-drop 4 (4 * i) s ∙ ap (λ (u : ℕ). drop u s) f)

-- c rows an element, numbered through
module _ (s : List ℕ) (row : ℕ → List ℕ) (c : ℕ) (f : Tet → List (List ℕ)) (each : (i : ℕ) → map row (numbers (c * i) c) ≡ f (tet_at s i)) where
  spread-from : (k i : ℕ) → map row (numbers (c * i) (c * k)) ≡ spread f (tets k (drop (4 * i) s))
  unfolding spread tets numbers
  spread-from zero i = let e : c * 0 ≡ 0 = omega arith in ap (λ (u : ℕ). map row (numbers (c * i) u)) e
  spread-from (suc k) i =
      let e : c * suc k ≡ c + c * k = omega arith in
      let g : c * i + c ≡ c * suc i = omega arith in
      ap (λ (u : ℕ). map row (numbers (c * i) u)) e
      ∙ ap (map row) (numbers-split (c * i) c (c * k) ∙ ap (λ (u : ℕ). numbers (c * i) c ++ numbers u (c * k)) g)
      ∙ map-append row (numbers (c * i) c) (numbers (c * suc i) (c * k))
      ∙ ap₂ (λ (u v : List (List ℕ)). u ++ v) (each i) (spread-from k (suc i))
      ∙ ap (spread f) (sym (tets-from s i k))

  pub spread-numbers : (n : ℕ) → map row (numbers 0 (c * n)) ≡ spread f (tets n s)
  spread-numbers n = let e : 0 ≡ c * 0 = omega arith in ap (λ (u : ℕ). map row (numbers u (c * n))) e ∙ spread-from n 0

pub vertex-rows : (s : List ℕ) (n : ℕ) → map (vertex_row_at s) (numbers 0 (4 * n)) ≡ spread vertex_rows (tets n s)
unfolding numbers vertex_row_at tet_at
vertex-rows s n = spread-numbers s (vertex_row_at s) 4 vertex_rows four n
  where
    at : (j k : ℕ) → j ≡ k → vertex_row_at s j ≡ word_at s k ∷ []
    at j k e = ap (λ (u : ℕ). word_at s u ∷ []) e

    four : (i : ℕ) → map (vertex_row_at s) (numbers (4 * i) 4) ≡ vertex_rows (tet_at s i)
    four i = rw (at (4 * i + 1 + 1) (4 * i + 2) (omega arith), at (4 * i + 1 + 1 + 1) (4 * i + 3) (omega arith)) refl

pub edge-rows : (s : List ℕ) (n : ℕ) → map (edge_row_at s) (numbers 0 (6 * n)) ≡ spread edge_rows (tets n s)
unfolding numbers edge_row_at
edge-rows s n = spread-numbers s (edge_row_at s) 6 edge_rows six n
  where
    at : (i j k : ℕ) → j / 6 ≡ i → j % 6 ≡ k → edge_row_at s j ≡ rising_row (ends_at (tet_at s i) k)
    at i j k p q = rw (p, q) refl

    six : (i : ℕ) → map (edge_row_at s) (numbers (6 * i) 6) ≡ edge_rows (tet_at s i)
    six i =
        rw (
          at i (6 * i) 0 (omega arith) (omega arith),
          at i (6 * i + 1) 1 (omega arith) (omega arith),
          at i (6 * i + 1 + 1) 2 (omega arith) (omega arith),
          at i (6 * i + 1 + 1 + 1) 3 (omega arith) (omega arith),
          at i (6 * i + 1 + 1 + 1 + 1) 4 (omega arith) (omega arith),
          at i (6 * i + 1 + 1 + 1 + 1 + 1) 5 (omega arith) (omega arith),
        ) refl

pub triangle-rows : (s : List ℕ) (n : ℕ) → map (triangle_row_at s) (numbers 0 (4 * n)) ≡ spread triangle_rows (tets n s)
unfolding numbers triangle_row_at
triangle-rows s n = spread-numbers s (triangle_row_at s) 4 triangle_rows four n
  where
    at : (i j k : ℕ) → j / 4 ≡ i → j % 4 ≡ k → triangle_row_at s j ≡ corners_of (key_of (face_of (tet_at s i) k))
    at i j k p q = rw (p, q) refl

    four : (i : ℕ) → map (triangle_row_at s) (numbers (4 * i) 4) ≡ triangle_rows (tet_at s i)
    four i =
        rw (
          at i (4 * i) 0 (omega arith) (omega arith),
          at i (4 * i + 1) 1 (omega arith) (omega arith),
          at i (4 * i + 1 + 1) 2 (omega arith) (omega arith),
          at i (4 * i + 1 + 1 + 1) 3 (omega arith) (omega arith),
        ) refl

-- ---- rows listed

-- the elements tell the rows of their edges and triangles
module _ (s : List ℕ) (n j : ℕ) where
  pub vertex_row-told : j < 4 * n → vertex_row_at (take (4 * n) s) j ≡ vertex_row_at s j
  unfolding vertex_row_at
  vertex_row-told h = ap (λ (v : ℕ). v ∷ []) (get_or-take (4 * n) s j 0 h)

  pub edge_row-told : j < 6 * n → edge_row_at (take (4 * n) s) j ≡ edge_row_at s j
  unfolding edge_row_at
  edge_row-told h = ap (λ (t : Tet). rising_row (ends_at t (j % 6))) (tet-kept s (take (4 * n) s) n (j / 6) (take-take (4 * n) (4 * n) s (le_refl (4 * n))) (omega arith))

  pub triangle_row-told : j < 4 * n → triangle_row_at (take (4 * n) s) j ≡ triangle_row_at s j
  unfolding triangle_row_at
  triangle_row-told h = ap (λ (t : Tet). corners_of (key_of (face_of t (j % 4)))) (tet-kept s (take (4 * n) s) n (j / 4) (take-take (4 * n) (4 * n) s (le_refl (4 * n))) (omega arith))

-- ---- rows sorted, and equal neighbours taken out

module _ (a n w : ℕ) (s₀ s₁ : List ℕ) (h : 0 < w) (room : a + (n + n) * w ≤ length s₀) (e₁ : s₁ ≡ take a s₀ ++ sorted_area n w (drop a s₀)) where
  kept₁ : KeptBelow a s₀ s₁
  kept₁ = sort-kept a n w s₀ s₁ (omega arith) e₁

  pub unique-room : a ≤ length s₁
  unique-room = omega (arith, kept₁.long)

  fits : fit_rows n w (length (drop a s₁)) ≡ true
  unfolding fit_rows
  fits =
      let m : (n + n) * w ≡ n * w + n * w = omega arith in
      and_intro (ltb 0 w) (leb (n * w) (length (drop a s₁))) (lt-ltb 0 w h) (le-leb (n * w) (length (drop a s₁)) (omega (arith, length-drop a s₁, kept₁.long)))

  -- how many are left
  pub rows-counted : (r : ℕ) → r ≡ length (unique_rows n w (mid_of a (length s₁ - a) s₁)) → r ≡ different (rows w n (drop a s₀))
  unfolding different
  rows-counted r e =
      e ∙ ap (λ (l : List ℕ). length (unique_rows n w l)) (tail-mid a s₁)
      ∙ ap length (unique-is n w (drop a s₁) fits ∙ ap (unique eq_row) (sort-from-rows a n w s₀ s₁ (omega arith) e₁ h room))

  -- the part put back
  pub counted-kept : (p s₂ : List ℕ) → p ≡ unique_area n w (mid_of a (length s₁ - a) s₁) → s₂ ≡ put_mid a (length s₁ - a) s₁ p → KeptBelow a s₀ s₂
  counted-kept p s₂ e f =
      kept-both a s₀ s₁ s₂ kept₁
      (put-kept a s₁ s₂ p unique-room
      (ap length e ∙ length-unique-area n w (mid_of a (length s₁ - a) s₁) ∙ ap length (tail-mid a s₁) ∙ length-drop a s₁)
      (f ∙ tail-put a s₁ p))

-- the rows of triangles written behind the elements
pub triangles-kept : (n : ℕ) (s₀ : List ℕ) → 28 * n ≤ length s₀ → (s₁ : List ℕ) → s₁ ≡ filled (triangle_row_at s₀) 3 (4 * n) (4 * n) s₀ → KeptBelow (4 * n) s₀ s₁
unfolding triangle_row_at
triangles-kept n s₀ room s₁ e = fill-kept (triangle_row_at s₀) 3 (λ i. refl) (4 * n) s₀ (omega arith) (4 * n) s₁ (omega arith) e

-- ---- the whole

pub in-no : (n : ℕ) (s : List ℕ) → count_fits n (length s) ≡ false
    → ◌≡◌ {A = Counted} (record { counts = record { vertices = 0; edges = 0; triangles = 0; elements = 0 }; area = s }) (counted_in n s)
unfolding counted_in
in-no n s e = rw e refl

module _ (n : ℕ) {s₀ s₁ s₂ s₃ : List ℕ} (k₁ : KeptBelow (4 * n) s₀ s₁) (k₂ : KeptBelow (4 * n) s₁ s₂) (k₃ : KeptBelow (4 * n) s₂ s₃) where
  pub all-kept : KeptBelow (4 * n) s₀ s₃
  all-kept = kept-both (4 * n) s₀ s₂ s₃ (kept-both (4 * n) s₀ s₁ s₂ k₁ k₂) k₃

  pub in-yes : (v e t : ℕ) {s₄ : List ℕ} → count_fits n (length s₀) ≡ true
      → v ≡ different (map (vertex_row_at s₀) (numbers 0 (4 * n))) → e ≡ different (map (edge_row_at s₁) (numbers 0 (6 * n)))
      → t ≡ different (map (triangle_row_at s₂) (numbers 0 (4 * n))) → s₄ ≡ take (4 * n) s₃ ++ zero_words (length s₃ - 4 * n)
      → ◌≡◌ {A = Counted} (record { counts = record { vertices = v; edges = e; triangles = t; elements = n }; area = s₄ }) (counted_in n s₀)
  unfolding counted_in counts_of
  in-yes v e t {s₄} f p q r z =
      let p' : v ≡ (counts_of (tets n s₀)).vertices = p ∙ ap different (vertex-rows s₀ n) in
      let q' : e ≡ (counts_of (tets n s₀)).edges = q ∙ ap different (edge-rows s₁ n) ∙ ap (λ (ts : List Tet). (counts_of ts).edges) (tets-kept n k₁) in
      let r' : t ≡ (counts_of (tets n s₀)).triangles = r ∙ ap different (triangle-rows s₂ n) ∙ ap (λ (ts : List Tet). (counts_of ts).triangles) (tets-kept n k₂ ∙ tets-kept n k₁) in
      let a : s₄ ≡ take (4 * n) s₀ ++ zero_words (length s₀ - 4 * n) = z ∙ ap₂ (λ (l : List ℕ) (m : ℕ). l ++ zero_words (m - 4 * n)) all-kept.front all-kept.long in
      rw f (cc (length-tets n s₀))
