-- The area in which number 14 is decided: rows of sorted vertices at the front of the work, sorted, scanned and cleared.
-- Assumes nothing.
use Rattle.std.specs.List.{range_with_len, list_all}
use Rattle.std.proofs.Common.{◌≡◌, ℕ, zero, suc, ◌+◌, ◌-◌, ◌*◌, ◌<◌, ◌≤◌, Bool, true, not, ◌&&◌, List, [], ◌∷◌, ◌++◌, map, length, take, drop, replicate, sym, refl, ap, ◌∙◌, ap₂, append_assoc, le_of_suc-le-suc, not-suc-le-zero, sub-one, arith, length-append, length-drop, drop-drop, take_at, drop_at, le-leb}
use lib.ListN.{replicate-append-replicate}
use Rattle.mesh.specs.declared.element.Tet.{Tet}
use Rattle.mesh.specs.Sort.{sort}
use Rattle.mesh.specs.inside.Sort.{headed, ordered}
use Rattle.mesh.specs.inside.Rows.{rows, le_row, eq_row, fit_rows, sorted_area}
use Rattle.mesh.specs.Words.{numbers, flat, zero_words}
use Rattle.mesh.specs.inside.Euler.{spread}
use Rattle.mesh.specs.inside.Manifold.{filled}
use Rattle.mesh.specs.Element.{tets}
use Rattle.mesh.specs.inside.Intake.{tet_at, vertex_row, none_twice}
use Rattle.mesh.specs.inside.RowWidths.{sorted_row-wide}
use Rattle.mesh.proofs.Laws.Rows.{Shape, none, more, rows-flat, length-flat, shape-sort}
use Rattle.mesh.proofs.Laws.Areas.{area-is, rows-sorted}
use Rattle.mesh.proofs.Laws.Intake.Reads.{length-tets}
use Rattle.mesh.proofs.Laws.Euler.Areas.{spread-numbers}

-- ---- rows listed at the front

-- the sorted vertices of the element e
abbrev pub row_of : List ℕ → ℕ → List ℕ
row_of el e = vertex_row (tet_at el e)

one-each : (ts : List Tet) → spread (λ t. vertex_row t ∷ []) ts ≡ map vertex_row ts
unfolding spread
one-each [] = refl
one-each (t ∷ ts) = ap (λ (l : List (List ℕ)). vertex_row t ∷ l) (one-each ts)

rows-numbered : (el : List ℕ) (n : ℕ) → map (row_of el) (numbers 0 n) ≡ map vertex_row (tets n el)
unfolding numbers
rows-numbered el n =
    let e : n ≡ 1 * n = omega arith in
    ap (λ (k : ℕ). map (row_of el) (numbers 0 k)) e
    ∙ spread-numbers el (row_of el) 1 (λ t. vertex_row t ∷ []) (λ i. let k : 1 * i ≡ i = omega arith in ap (λ (u : ℕ). row_of el u ∷ []) k) n
    ∙ one-each (tets n el)

-- the rows listed at the front, and behind them what stood there
pub rows-listed : (el s₀ s : List ℕ) (n : ℕ) → s ≡ filled (row_of el) 4 0 n s₀ → s ≡ flat (map vertex_row (tets n el)) ++ drop (4 * n) s₀
unfolding filled
rows-listed el s₀ s n q =
    let k : 0 + 4 * n ≡ 4 * n = omega arith in
    q ∙ ap₂ (λ (l : List (List ℕ)) (i : ℕ). flat l ++ drop i s₀) (rows-numbered el n) k

-- ---- neighbours compared

two-rows : (s : List ℕ) (p left : ℕ) → 1 < left
    → none_twice (rows 4 left (drop p s)) ≡ (not (eq_row (take 4 (drop p s)) (take 4 (drop (p + 4) s))) && none_twice (rows 4 (left - 1) (drop (p + 4) s)))
unfolding rows none_twice ordered headed
two-rows s p zero h = absurd (not-suc-le-zero h)
two-rows s p (suc zero) h = absurd (not-suc-le-zero (le_of_suc-le-suc h))
two-rows s p (suc (suc k)) h = rw (sub-one, ← (drop-drop 4 p s))

twice-end : (s : List ℕ) (p left : ℕ) → left ≤ 1 → none_twice (rows 4 left (drop p s)) ≡ true
unfolding rows none_twice ordered headed
twice-end s p zero h = refl
twice-end s p (suc zero) h = refl
twice-end s p (suc (suc k)) h = absurd (not-suc-le-zero (le_of_suc-le-suc h))

-- each row but the first tested against the one before it
twice-from : (s : List ℕ) (k m : ℕ) → list_all (λ i. not (eq_row (take 4 (drop (4 * (i - 1)) s)) (take 4 (drop (4 * i) s)))) (range_with_len (m + 1) k) ≡ none_twice (rows 4 (k + 1) (drop (4 * m) s))
twice-from s zero m = sym (twice-end s (4 * m) (0 + 1) (omega arith))
twice-from s (suc k) m =
    let e : m + 1 - 1 ≡ m = omega arith in
    let f : 4 * (m + 1) ≡ 4 * m + 4 = omega arith in
    let g : suc k + 1 - 1 ≡ k + 1 = omega arith in
    ap₂ (λ (u v : ℕ). not (eq_row (take 4 (drop (4 * u) s)) (take 4 (drop v s))) && list_all (λ i. not (eq_row (take 4 (drop (4 * (i - 1)) s)) (take 4 (drop (4 * i) s)))) (range_with_len (m + 1 + 1) k)) e f
    ∙ ap (λ (b : Bool). not (eq_row (take 4 (drop (4 * m) s)) (take 4 (drop (4 * m + 4) s))) && b)
    (twice-from s k (m + 1) ∙ ap₂ (λ (u v : ℕ). none_twice (rows 4 u (drop v s))) (sym g) f)
    ∙ sym (two-rows s (4 * m) (suc k + 1) (omega arith))

pub twice-all : (s : List ℕ) (n : ℕ) → list_all (λ i. not (eq_row (take 4 (drop (4 * (i - 1)) s)) (take 4 (drop (4 * i) s)))) (range_with_len 1 (n - 1)) ≡ none_twice (rows 4 n s)
twice-all s zero = sym (twice-end s 0 0 (omega arith))
twice-all s (suc n) = let e : suc n - 1 ≡ n = omega arith in let f : n + 1 ≡ suc n = omega arith in rw e (twice-from s n 0 ∙ ap (λ (u : ℕ). none_twice (rows 4 u s)) f)

-- ---- filled, sorted and cleared

shape-rows-of : (ts : List Tet) (n : ℕ) → length ts ≡ n → Shape 4 n (map vertex_row ts)
shape-rows-of [] zero h = none
shape-rows-of [] (suc n) h = absurd (no n h)
  where
    no : (n : ℕ) → 0 ≡ suc n → ⊥
    no n h = omega arith
shape-rows-of (t ∷ ts) zero h = absurd (no (length ts) h)
  where
    no : (n : ℕ) → suc n ≡ 0 → ⊥
    no n h = omega arith
shape-rows-of (t ∷ ts) (suc n) h = more (sorted_row-wide t) (shape-rows-of ts n (down (length ts) n h))
  where
    down : (a b : ℕ) → suc a ≡ suc b → a ≡ b
    down a b h = omega arith

module _ (n : ℕ) (el s₀ s₁ : List ℕ) (room : 8 * n ≤ length s₀) (e₁ : s₁ ≡ flat (map vertex_row (tets n el)) ++ drop (4 * n) s₀) where
  shape : Shape 4 n (map vertex_row (tets n el))
  shape = shape-rows-of (tets n el) n (length-tets n el)

  front : length (flat (map vertex_row (tets n el))) ≡ 4 * n
  front = length-flat shape ∙ (let k : n * 4 ≡ 4 * n = omega arith in k)

  long : length s₁ ≡ length s₀
  long = ap length e₁ ∙ (let k : length (flat (map vertex_row (tets n el)) ++ drop (4 * n) s₀) ≡ length s₀ = omega (arith, length-append (flat (map vertex_row (tets n el))) (drop (4 * n) s₀), front, length-drop (4 * n) s₀) in k)

  fit : fit_rows (n + n) 4 (length s₁) ≡ true
  unfolding fit_rows
  fit = le-leb ((n + n) * 4) (length s₁) (omega (arith, long))

  filled-rows : rows 4 n s₁ ≡ map vertex_row (tets n el)
  filled-rows = ap (rows 4 n) e₁ ∙ rows-flat shape (drop (4 * n) s₀)

  module _ (s₂ : List ℕ) (e₂ : s₂ ≡ sorted_area n 4 s₁) where
    pub sorted-rows : rows 4 n s₂ ≡ sort le_row (map vertex_row (tets n el))
    sorted-rows = ap (rows 4 n) e₂ ∙ rows-sorted n 4 s₁ fit ∙ ap (sort le_row) filled-rows

    sorted-long : length (flat (sort le_row (rows 4 n s₁))) ≡ 4 * n
    sorted-long =
        ap (λ (l : List (List ℕ)). length (flat (sort le_row l))) filled-rows ∙ length-flat (shape-sort shape) ∙ (let k : n * 4 ≡ 4 * n = omega arith in k)

    -- the front, lent as a part and cleared
    pub area-cleared : (z : List ℕ) → z ≡ replicate (length (take (4 * n - 0) (drop 0 s₂))) 0
        → take 0 s₂ ++ (z ++ drop (4 * n - 0) (drop 0 s₂)) ≡ zero_words (8 * n) ++ drop (8 * n) s₀
    area-cleared z f =
        let w = flat (sort le_row (rows 4 n s₁)) in
        let x = replicate (n * 4) 0 ++ drop (n * 4 + n * 4) s₁ in
        let e : s₂ ≡ w ++ x = e₂ ∙ area-is n 4 s₁ fit in
        let o : 4 * n - 0 ≡ 4 * n = omega arith in
        let cut : drop (4 * n - 0) s₂ ≡ x = ap₂ (λ (k : ℕ) (l : List ℕ). drop k l) o e ∙ drop_at w x (4 * n) sorted-long in
        let m : length (take (4 * n - 0) s₂) ≡ 4 * n =
        ap₂ (λ (k : ℕ) (l : List ℕ). length (take k l)) o e ∙ ap length (take_at w x (4 * n) sorted-long) ∙ sorted-long in
        let k : n * 4 + n * 4 ≡ 4 * n + 4 * n = omega arith in
        let j : 4 * n + 4 * n ≡ 8 * n = omega arith in
        let i : 4 * n + n * 4 ≡ 8 * n = omega arith in
        let rest : drop (n * 4 + n * 4) s₁ ≡ drop (8 * n) s₀ =
        ap (λ (u : ℕ). drop u s₁) k ∙ sym (drop-drop (4 * n) (4 * n) s₁) ∙ ap (λ (l : List ℕ). drop (4 * n) (drop (4 * n) l)) e₁
        ∙ ap (drop (4 * n)) (drop_at (flat (map vertex_row (tets n el))) (drop (4 * n) s₀) (4 * n) front) ∙ drop-drop (4 * n) (4 * n) s₀
        ∙ ap (λ (u : ℕ). drop u s₀) j in
        ap₂ (λ (u v : List ℕ). u ++ v) (f ∙ ap (λ (u : ℕ). replicate u 0) m) (cut ∙ ap (λ (l : List ℕ). replicate (n * 4) 0 ++ l) rest)
        ∙ sym (append_assoc (replicate (4 * n) 0) (replicate (n * 4) 0) (drop (8 * n) s₀))
        ∙ ap (λ (l : List ℕ). l ++ drop (8 * n) s₀) (replicate-append-replicate (4 * n) (n * 4) 0 ∙ ap (λ (u : ℕ). replicate u 0) i)
