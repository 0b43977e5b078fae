-- The sorted keys of the faces of elements behind them: of face rows in order the numbers dropped, or rows of triangles sorted by comparing.
-- Assumes nothing.
use Rattle.std.proofs.Common.{◌≡◌, ℕ, ◌+◌, ◌*◌, ◌<◌, ◌≤◌, Bool, true, List, [], ◌∷◌, ◌++◌, map, length, take, drop, sym, refl, ap, ◌∙◌, subst, arith, length-drop, length-take-le, take-take, drop-drop, drop_at}
use mathlib.Core.List.{map-append}
use lib.Seq.{paste}
use Rattle.mesh.specs.declared.element.Triple.{Triple}
use Rattle.mesh.specs.Sort.{sort}
use Rattle.mesh.specs.inside.Rows.{rows, le_row, eq_row, sorted_area}
use Rattle.mesh.specs.Words.{numbers, flat}
use Rattle.mesh.specs.Element.{tets, key_of, corners_of}
use Rattle.mesh.specs.Boundary.{all_faces}
use Rattle.mesh.specs.inside.Surface.{face_at, face_row, face_rows}
use Rattle.mesh.specs.inside.Manifold.{filled, KeptBelow}
use Rattle.mesh.specs.inside.Faces.{TriedFaces, SortedKeys, TriedKeys}
use Rattle.mesh.specs.inside.Euler.{spread, triangle_rows, triangle_row_at}
use Rattle.mesh.specs.inside.List.{stacked}
use Rattle.mesh.proofs.Laws.Rows.{Shape, none, more, shape-rows, rows-flat, rows-add, le_row-total, le_row-take}
use Rattle.mesh.proofs.Laws.Sort.{ordered-sort}
use Rattle.mesh.proofs.Laws.SortedRows.{sorted-rows-unique}
use Rattle.mesh.proofs.Laws.Boundary.Faces.{faces-are}
use Rattle.mesh.proofs.Laws.Group.Images.{ordered-map, count-sort-map, map-map}
use Rattle.mesh.proofs.Laws.Manifold.Fill.{filled-rows}
use Rattle.mesh.proofs.Laws.Manifold.Growth.{kept-both}
use Rattle.mesh.proofs.Laws.Manifold.Steps.{sort-kept, sort-from-rows}
use Rattle.mesh.proofs.Laws.Euler.Areas.{tets-kept, triangle-rows, triangles-kept}
use Rattle.mesh.proofs.Laws.List.Meaning.{spread-faces}
use Rattle.mesh.proofs.Laws.List.Stack.{stack-start, stack-kept, stack-rest, stack-turn}

-- ---- the numbers behind keys dropped

shape-take : {n : ℕ} (rs : List (List ℕ)) → Shape 4 n rs → Shape 3 n (map (take 3) rs)
shape-take [] none = none
shape-take (r ∷ rs) (more e s) = more (length-take-le 3 r (omega (arith, e))) (shape-take rs s)

module _ (p m : ℕ) (s₀ : List ℕ) where
  abbrev keys : ℕ → List (List ℕ)
  keys i = map (take 3) (rows 4 i (drop p s₀))

  -- what holds at the head of the loop: the first i keys stand one behind the other
  pub record Dropping (s : List ℕ) (i : ℕ) : Type 0 where
    pub bound : i ≤ m
    pub area : s ≡ stacked (keys i) 3 p s₀

  module _ (room : p + 4 * m ≤ length s₀) where
    shape-keys : (i : ℕ) → i ≤ m → Shape 3 i (keys i)
    shape-keys i h = shape-take (rows 4 i (drop p s₀)) (shape-rows 4 i (drop p s₀) (omega (arith, length-drop p s₀)))

    pub dropping-start : Dropping s₀ 0
    unfolding rows
    dropping-start = record { bound = omega arith; area = stack-start 3 p s₀ }

    module _ {s : List ℕ} {i : ℕ} (v : Dropping s i) where
      pub dropping-kept : KeptBelow p s₀ s
      dropping-kept = subst (KeptBelow p s₀) (sym v.area) (stack-kept i (shape-keys i v.bound) p s₀ (omega arith) (omega (arith, v.bound)))

      next : keys (i + 1) ≡ keys i ++ (take 3 (drop (p + 4 * i) s₀) ∷ [])
      unfolding rows
      next =
          let e : p + i * 4 ≡ p + 4 * i = omega arith in
          ap (map (take 3)) (rows-add 4 i 1 (drop p s₀))
          ∙ map-append (take 3) (rows 4 i (drop p s₀)) (rows 4 1 (drop (i * 4) (drop p s₀)))
          ∙ ap (λ (l : List ℕ). keys i ++ (l ∷ [])) (take-take 3 4 (drop (i * 4) (drop p s₀)) (omega arith) ∙ ap (take 3) (drop-drop (i * 4) p s₀ ∙ ap (λ (u : ℕ). drop u s₀) e))

      pub dropping-turn : i < m → (s' : List ℕ) → s' ≡ paste s (p + 3 * i) (drop (p + 4 * i) s) 3 → Dropping s' (i + 1)
      dropping-turn h s' e =
          let at = p + 3 * i in
          let r = take 3 (drop (p + 4 * i) s₀) in
          let rest : drop (p + 4 * i) s ≡ drop (p + 4 * i) s₀ = ap (drop (p + 4 * i)) v.area ∙ stack-rest i (shape-keys i v.bound) p s₀ (omega arith) (p + 4 * i) (omega arith) in
          let same : take 3 (drop (p + 4 * i) s) ≡ take 3 (take 3 (drop (p + 4 * i) s₀)) = ap (take 3) rest ∙ sym (take-take 3 3 (drop (p + 4 * i) s₀) (omega arith)) in
          record {
            bound = omega arith;
            area =
                stack-turn i (shape-keys i v.bound) p s₀ (omega arith) s s' r v.area (length-take-le 3 (drop (p + 4 * i) s₀) (omega (arith, length-drop (p + 4 * i) s₀)))
                (e ∙ ap (λ (l : List ℕ). (take at s ++ l) ++ drop (at + 3) s) same)
                ∙ ap (λ (l : List (List ℕ)). stacked l 3 p s₀) (sym next);
          }

      pub dropping-end : m ≤ i → (rows 3 m (drop p s) ≡ map (take 3) (rows 4 m (drop p s₀))) × KeptBelow p s₀ s
      unfolding stacked
      dropping-end h =
          let e : i ≡ m = omega (arith, v.bound) in
          let d = drop (p + 3 * length (keys i)) s₀ in
          let k : rows 3 i (drop p s) ≡ keys i =
          ap (λ (l : List ℕ). rows 3 i (drop p l)) v.area
          ∙ ap (rows 3 i) (drop_at (take p s₀) (flat (keys i) ++ d) p (length-take-le p s₀ (omega arith)))
          ∙ rows-flat (shape-keys i v.bound) d in
          (subst (λ (u : ℕ). rows 3 u (drop p s) ≡ keys u) e k, dropping-kept)

-- ---- by counting

-- the keys of the sorted face rows are the sorted keys
key-rows : (n : ℕ) (s : List ℕ) → map (take 3) (sort le_row (face_rows n s)) ≡ sort le_row (spread triangle_rows (tets n s))
unfolding face_rows
key-rows n s =
    let ns = numbers 0 (4 * n) in
    let f : ℕ → List ℕ = λ m. face_row (face_at s m) m in
    sorted-rows-unique (map (take 3) (sort le_row (map f ns))) (map (take 3) (map f ns))
    (ordered-map (take 3) le_row le_row (le_row-take 3) (sort le_row (map f ns)) (ordered-sort le_row le_row-total (map f ns)))
    (λ z. count-sort-map (take 3) le_row eq_row z (map f ns))
    ∙ ap (sort le_row) (map-map (take 3) f ns ∙ sym (map-map (λ (g : Triple). corners_of (key_of g)) (face_at s) ns) ∙ ap (map (λ (g : Triple). corners_of (key_of g))) (faces-are s n) ∙ sym (map-map corners_of key_of (all_faces (tets n s))) ∙ sym (spread-faces (tets n s)))

-- the numbers of the face rows dropped
pub tried-counted : (n : ℕ) {s₀ s₁ s₂ : List ℕ} {r : Bool} → TriedFaces n s₀ s₁ r → r ≡ true → (rows 3 (4 * n) (drop (4 * n) s₂) ≡ map (take 3) (rows 4 (4 * n) (drop (4 * n) s₁))) × KeptBelow (4 * n) s₁ s₂ → TriedKeys n s₀ s₂ true
tried-counted n {s₀} {s₁} {s₂} t e d = record {
  kept = kept-both (4 * n) s₀ s₁ s₂ t.kept d.1;
  sorted = λ q. d.0 ∙ ap (map (take 3)) (t.sorted e) ∙ key-rows n s₀;
}

-- ---- by comparing

module _ (n : ℕ) (s₀ s₁ s₂ s₃ : List ℕ) (room : 88 * n ≤ length s₀) (k : KeptBelow (4 * n) s₀ s₁) where
  module _ (e₂ : s₂ ≡ filled (triangle_row_at s₁) 3 (4 * n) (4 * n) s₁) where
    kept₂ : KeptBelow (4 * n) s₁ s₂
    kept₂ = triangles-kept n s₁ (omega (arith, k.long)) s₂ e₂

    keys-room : 4 * n ≤ length s₂
    keys-room = omega (arith, kept₂.long, k.long)

    pub keys-compared : s₃ ≡ take (4 * n) s₂ ++ sorted_area (4 * n) 3 (drop (4 * n) s₂) → SortedKeys n s₀ s₃
    unfolding triangle_row_at
    keys-compared e₃ = record {
      kept = kept-both (4 * n) s₀ s₁ s₃ k (kept-both (4 * n) s₁ s₂ s₃ kept₂ (sort-kept (4 * n) (4 * n) 3 s₂ s₃ keys-room e₃));
      sorted =
          sort-from-rows (4 * n) (4 * n) 3 s₂ s₃ keys-room e₃ (omega arith) (omega (arith, kept₂.long, k.long))
          ∙ ap (sort le_row)
          (filled-rows (triangle_row_at s₁) 3 (λ i. refl) (4 * n) s₁ (omega (arith, k.long)) (4 * n) s₂ e₂ ∙ triangle-rows s₁ n ∙ ap (spread triangle_rows) (tets-kept n k));
    }
