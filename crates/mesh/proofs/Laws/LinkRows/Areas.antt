-- Rows of elements in the area, and the search for a mark. Assumes nothing.
use Rattle.std.proofs.Common.{◌≡◌, ℕ, zero, suc, ◌+◌, ◌*◌, ◌/◌, ◌%◌, ◌<◌, Bool, true, false, not, ◌&&◌, ◌||◌, eqb, List, [], ◌∷◌, ◌++◌, get_or, take, drop, sym, refl, ap, ◌∙◌, ap₂, arith, take-take, le_refl, get_or-drop, get_or-take, drop-drop}
use Rattle.std.specs.List.{list_any, range_with_len}
use Rattle.mesh.specs.declared.element.Tet.{Tet}
use Rattle.mesh.specs.inside.Rows.{rows}
use Rattle.mesh.specs.Tests.{every}
use Rattle.mesh.specs.Element.{corners_of, vertices_of}
use Rattle.mesh.specs.inside.LinkRows.{mark, link_face, subset_at, element_row_at, marked}
use Rattle.mesh.proofs.Laws.Euler.Areas.{tet-kept}

-- ---- rows of elements by number

-- the elements tell the rows
pub element_row-told : (a b : ℕ) (s : List ℕ) (n j : ℕ) → j < 7 * n → element_row_at a b (take (4 * n) s) j ≡ element_row_at a b s j
unfolding element_row_at
element_row-told a b s n j h =
    ap (λ (t : Tet). corners_of (subset_at (link_face a b t) (j % 7)) ++ (mark a b (vertices_of t) ∷ []))
    (tet-kept s (take (4 * n) s) n (j / 7) (take-take (4 * n) (4 * n) s (le_refl (4 * n))) (omega arith))

-- ---- the search for a mark

first-row : (s : List ℕ) (kw m i left : ℕ) → marked kw m (rows (kw + 1) (suc left) (drop i s)) ≡ (eqb (get_or s (i + kw) 0) m || marked kw m (rows (kw + 1) left (drop (i + (kw + 1)) s)))
unfolding rows
first-row s kw m i left =
    let e : get_or (take (kw + 1) (drop i s)) kw 0 ≡ get_or s (i + kw) 0 = get_or-take (kw + 1) (drop i s) kw 0 (omega arith) ∙ get_or-drop i s kw 0 in
    ap₂ (λ (u : ℕ) (l : List ℕ). not (not (eqb u m) && every (λ r. not (eqb (get_or r kw 0) m)) (rows (kw + 1) left l))) e (drop-drop (kw + 1) i s)
    ∙ turn (eqb (get_or s (i + kw) 0) m) (every (λ r. not (eqb (get_or r kw 0) m)) (rows (kw + 1) left (drop (i + (kw + 1)) s)))
  where
    turn : (p q : Bool) → not (not p && q) ≡ (p || not q)
    turn true q = refl
    turn false q = refl

-- the rows from the row i on, asked in turn
marked-from : (s : List ℕ) (p kw m left i : ℕ) → list_any (λ j. eqb (get_or s (p + j * (kw + 1) + kw) 0) m) (range_with_len i left) ≡ marked kw m (rows (kw + 1) left (drop (p + i * (kw + 1)) s))
unfolding rows
marked-from s p kw m zero i = refl
marked-from s p kw m (suc left) i =
    let e : p + (i + 1) * (kw + 1) ≡ p + i * (kw + 1) + (kw + 1) = omega arith in
    ap (λ (b : Bool). eqb (get_or s (p + i * (kw + 1) + kw) 0) m || b) (marked-from s p kw m left (i + 1) ∙ ap (λ (u : ℕ). marked kw m (rows (kw + 1) left (drop u s))) e)
    ∙ sym (first-row s kw m (p + i * (kw + 1)) left)

pub marked-any : (s : List ℕ) (p kw m k : ℕ) → list_any (λ j. eqb (get_or s (p + j * (kw + 1) + kw) 0) m) (range_with_len 0 k) ≡ marked kw m (rows (kw + 1) k (drop p s))
marked-any s p kw m k = let e : p + 0 * (kw + 1) ≡ p = omega arith in marked-from s p kw m k 0 ∙ ap (λ (u : ℕ). marked kw m (rows (kw + 1) k (drop u s))) e
