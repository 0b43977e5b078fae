-- The different rows of the elements' simplices are the faces of their complex, so that the counts' alternating sum is the alternating
-- count. Assumes nothing.
use Rattle.std.proofs.Common.{◌≡◌, ℕ, ◌+◌, ◌<◌, true, false, not, leb, List, [], ◌∷◌, map, length, sym, refl, ap, ◌∙◌, subst, ap₂, inl, inr, arith}
use mathlib.Core.List.{Memᴰ}
use borrow.Author.Tests.{not-true}
use lib.IntN.{sub_ℕ}
use lib.ListN.{length-map}
use Rattle.mesh.specs.declared.element.Tet.{Tet}
use Rattle.mesh.specs.Sort.{sort, unique}
use Rattle.mesh.specs.inside.Sort.{before, headed, ordered, elem}
use Rattle.mesh.specs.inside.Rows.{le_row, eq_row}
use Rattle.mesh.specs.Complex.{mem, within, faces, alternating, Nodup}
use Rattle.mesh.specs.inside.Complex.{Proper, Listed}
use Rattle.mesh.specs.Element.{vertices_of}
use Rattle.mesh.proofs.Laws.Bools.{clash, fails, and_left, and_right}
use Rattle.mesh.proofs.Laws.Sort.{length-sort}
use Rattle.mesh.proofs.Laws.Rows.{le_row-trans, le_row-total, le_row-refl, eq_row-refl, eq_row-sound}
use Rattle.mesh.proofs.Laws.SortedRows.{set-elem, set-rising}
use Rattle.mesh.proofs.Laws.Complex.Sets.{nope, or_cases, or_left, or_right, within-elim, within-intro, full}
use Rattle.mesh.proofs.Laws.Complex.Tets.{tet-of}
use Rattle.mesh.proofs.Laws.Complex.Listed.{faces-listed}
use Rattle.mesh.proofs.Laws.Link.Simplices.{rising, rising-nodup, rising-unique, sort-mem, sort-rising}
use Rattle.mesh.proofs.Laws.Link.Keys.{proper-fours}
use Rattle.mesh.specs.inside.Euler.{vertex_rows, edge_rows, triangle_rows, spread, different, counts_of, alternating_of}
use Rattle.mesh.proofs.Laws.Euler.Simplices.{Simplex, Lists, vertices-listed, edges-listed, triangles-listed}

-- ---- members

elem_mem : (z : List ℕ) (l : List (List ℕ)) → elem eq_row z l ≡ true → Memᴰ z l
unfolding elem
elem_mem z [] h = clash false h refl
elem_mem z (y ∷ l) h = elim (or_cases (eq_row z y) (elem eq_row z l) h) [ inl q ↦ mathlib.Core.List.Memᴰ.head (eq_row-sound z y q) | inr q ↦ mathlib.Core.List.Memᴰ.tail (elem_mem z l q) ]

mem-elem : (z : List ℕ) (l : List (List ℕ)) → Memᴰ z l → elem eq_row z l ≡ true
unfolding elem
mem-elem z [] m = absurd (mathlib.Core.List.Memᴰ.not-nil m)
mem-elem z (y ∷ l) m =
    elim (mathlib.Core.List.Memᴰ.cases_cons m) [
      | inl q ↦ or_left {a = eq_row z y} (elem eq_row z l) (rw q (eq_row-refl y))
      | inr q ↦ or_right (eq_row z y) (mem-elem z l q)
    ]

-- rows sorted, with equal neighbours taken out
set-from : (z : List ℕ) (l : List (List ℕ)) → Memᴰ z (unique eq_row (sort le_row l)) → Memᴰ z l
set-from z l m = elem_mem z l (sym (set-elem z l) ∙ mem-elem z (unique eq_row (sort le_row l)) m)

set-in : (z : List ℕ) (l : List (List ℕ)) → Memᴰ z l → Memᴰ z (unique eq_row (sort le_row l))
set-in z l m = elem_mem z (unique eq_row (sort le_row l)) (set-elem z l ∙ mem-elem z l m)

module _ (f : Tet → List (List ℕ)) where
  pub spread-from : (ts : List Tet) (σ : List ℕ) → Memᴰ σ (spread f ts) → (t : Tet) × Memᴰ t ts × Memᴰ σ (f t)
  unfolding spread
  spread-from [] σ m = absurd (mathlib.Core.List.Memᴰ.not-nil m)
  spread-from (t ∷ ts) σ m =
      elim (mathlib.Core.List.Memᴰ.append_cases (f t) m) [
        | inl q ↦ (t, mathlib.Core.List.Memᴰ.head refl, q)
        | inr q ↦ let r = spread-from ts σ q in (r.0, mathlib.Core.List.Memᴰ.tail r.1, r.2)
      ]

  pub spread-in : (ts : List Tet) (t : Tet) (σ : List ℕ) → Memᴰ t ts → Memᴰ σ (f t) → Memᴰ σ (spread f ts)
  unfolding spread
  spread-in [] t σ m k = absurd (mathlib.Core.List.Memᴰ.not-nil m)
  spread-in (u ∷ ts) t σ m k =
      elim (mathlib.Core.List.Memᴰ.cases_cons m) [
        | inl q ↦ mathlib.Core.List.Memᴰ.append_left (spread f ts) (rw q at k)
        | inr q ↦ mathlib.Core.List.Memᴰ.append_right (f u) (spread-in ts t σ q k)
      ]

-- ---- strictly rising rows

-- no row stands again behind its place
behind : (x : List ℕ) (l : List (List ℕ)) → ordered (before le_row) (x ∷ l) ≡ true → (z : List ℕ) → Memᴰ z l → le_row z x ≡ false
unfolding ordered headed before
behind x [] h z m = absurd (mathlib.Core.List.Memᴰ.not-nil m)
behind x (y ∷ l) h z m =
    let a = not-true (le_row y x) (and_left (not (le_row y x)) (ordered (before le_row) (y ∷ l)) h) in
    elim (mathlib.Core.List.Memᴰ.cases_cons m) [
      | inl q ↦ rw q a
      | inr q ↦ (
          let b = behind y l (and_right (not (le_row y x)) (ordered (before le_row) (y ∷ l)) h) z q in
          fails (le_row z x) (λ k. clash (le_row z y) (le_row-trans z x y k (le_row-total y x a)) b))
    ]

rest-ordered : (x : List ℕ) (l : List (List ℕ)) → ordered (before le_row) (x ∷ l) ≡ true → ordered (before le_row) l ≡ true
unfolding ordered
rest-ordered x l h = and_right (headed (before le_row) x l) (ordered (before le_row) l) h

-- rows that rise, each of k vertices below n in rising order, are sets of which none is there twice
listed : (k n : ℕ) (l : List (List ℕ)) → ordered (before le_row) l ≡ true
    → ((σ : List ℕ) → Memᴰ σ l → (length σ ≡ k) × (rising σ ≡ true) × ((x : ℕ) → mem x σ ≡ true → x < n)) → Listed k n l
listed k n [] h g = tt
listed k n (σ ∷ l) h g =
    let s = g σ (mathlib.Core.List.Memᴰ.head refl) in
    (s.0, rising-nodup σ s.1, s.2, nope (λ w. again w), listed k n l (rest-ordered σ l h) (λ τ m. g τ (mathlib.Core.List.Memᴰ.tail m)))
  where
    again : within σ l ≡ true → ⊥
    again w =
        let r = within-elim σ l w in
        let s = g σ (mathlib.Core.List.Memᴰ.head refl) in
        let t = g r.0 (mathlib.Core.List.Memᴰ.tail r.1) in
        let back = full σ r.0 (rising-nodup σ s.1) r.2 (omega (arith, s.0, t.0)) in
        let e = rising-unique σ r.0 s.1 t.1 r.2 back in
        clash (le_row r.0 σ) (ap (le_row r.0) e ∙ le_row-refl r.0) (behind σ l h r.0 r.1)

-- ---- faces

module _ (k n : ℕ) (f : Tet → List (List ℕ)) (lists : (t : Tet) → Nodup (vertices_of t) → Lists k (vertices_of t) (f t)) (ts : List Tet) (P : Proper n (map vertices_of ts)) where
  -- each row is a face
  row-face : (σ : List ℕ) → Memᴰ σ (spread f ts) → (length σ ≡ k) × (rising σ ≡ true) × ((x : ℕ) → mem x σ ≡ true → x < n) × (within σ (map vertices_of ts) ≡ true)
  row-face σ m =
      let r = spread-from f ts σ m in
      let i : Memᴰ (vertices_of r.0) (map vertices_of ts) = mathlib.Core.List.Memᴰ.map vertices_of r.1 in
      let s = (lists r.0 (proper-fours n ts P r.0 r.1)).only σ r.2 in
      (s.size, s.rises, (λ x q. (tet-of {n = n} P i).below x (s.inside x q)), within-intro σ i s.inside)

  -- each face is in a row
  face-row : (σ : List ℕ) → length σ ≡ k → Nodup σ → within σ (map vertices_of ts) ≡ true → within σ (unique eq_row (sort le_row (spread f ts))) ≡ true
  face-row σ l d w =
      let τ = sort leb σ in
      let r = within-elim σ (map vertices_of ts) w in
      let q = of_map ts r.0 r.1 in
      let s : Simplex k (vertices_of q.0) τ = record {
        size = length-sort leb σ ∙ l;
        rises = sort-rising σ d;
        inside = λ x m. subst (λ (e : List ℕ). mem x e ≡ true) q.2 (r.2 x (sym (sort-mem x σ) ∙ m));
      } in
      let m = spread-in f ts q.0 τ q.1 ((lists q.0 (proper-fours n ts P q.0 q.1)).all τ s) in
      within-intro σ (set-in τ (spread f ts) m) (λ x h. sort-mem x σ ∙ h)
    where
      of_map : (ts : List Tet) (e : List ℕ) → Memᴰ e (map vertices_of ts) → (t : Tet) × Memᴰ t ts × (e ≡ vertices_of t)
      of_map [] e m = absurd (mathlib.Core.List.Memᴰ.not-nil m)
      of_map (t ∷ ts) e m =
          elim (mathlib.Core.List.Memᴰ.cases_cons m) [
            | inl q ↦ (t, mathlib.Core.List.Memᴰ.head refl, q)
            | inr q ↦ let r = of_map ts e q in (r.0, mathlib.Core.List.Memᴰ.tail r.1, r.2)
          ]

  -- so many faces are there
  different-faces : different (spread f ts) ≡ faces k n (map vertices_of ts)
  unfolding different
  different-faces =
      sym (faces-listed k n (map vertices_of ts) (unique eq_row (sort le_row (spread f ts)))
      (listed k n (unique eq_row (sort le_row (spread f ts))) (set-rising (spread f ts)) (λ σ m. let r = row-face σ (set-from σ (spread f ts) m) in (r.0, r.1, r.2)))
      (λ σ m. (row-face σ (set-from σ (spread f ts) m)).3) face-row)

-- the counts of elements of four different vertices below n each, no two with the same
module _ (n : ℕ) (ts : List Tet) (P : Proper n (map vertices_of ts)) where
  pub vertices-faces : (counts_of ts).vertices ≡ faces 1 n (map vertices_of ts)
  unfolding counts_of
  vertices-faces = different-faces 1 n vertex_rows (λ t d. vertices-listed t) ts P

  pub edges-faces : (counts_of ts).edges ≡ faces 2 n (map vertices_of ts)
  unfolding counts_of
  edges-faces = different-faces 2 n edge_rows edges-listed ts P

  pub triangles-faces : (counts_of ts).triangles ≡ faces 3 n (map vertices_of ts)
  unfolding counts_of
  triangles-faces = different-faces 3 n triangle_rows triangles-listed ts P

  -- the number that the table prints as `euler`
  pub alternating-counts : alternating_of (counts_of ts) ≡ alternating n (map vertices_of ts)
  unfolding counts_of
  alternating-counts =
      ap₂ sub_ℕ (ap₂ (λ (a b : ℕ). a + b) vertices-faces triangles-faces) (ap₂ (λ (a b : ℕ). a + b) edges-faces (sym (length-map ts vertices_of)))
