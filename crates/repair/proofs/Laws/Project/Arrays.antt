-- The turns of the loops over the whole array, as turns over its corner. Assumes nothing.
use Prim.Native.Nat.{ℕ, ◌+◌, ◌-◌, ◌≤◌, ◌<◌}
use mathlib.Core.Path.{◌≡◌, sym, ap, ◌∙◌, subst}
use mathlib.Core.Bool.{Bool, true, false, cond}
use mathlib.Core.List.{List, [], ◌∷◌}
use native.Mathlib.Omega.{arith}
use lib.IntN.{pos}
use lib.Ieee.{Float, nan, fin}
use lib.ListN.{length, get_or, take, set, get_or-map}
use Rattle.std.specs.List.{swap}
use Rattle.geometry.specs.declared.point.Point.{Point}
use Rattle.geometry.specs.Float.{◌+₆₄◌, ◌*₆₄◌, total}
use Rattle.mesh.proofs.Laws.Parts.{get_d_any}
use Rattle.repair.specs.declared.project.rows.Row as row
use Rattle.repair.specs.Project.{entry, smaller_size, pivot, exchanged, products}
use Rattle.repair.specs.inside.project.Solve.{row_of, rows_of, Shaped, window, cleared_at, scaled_on, displacement}
use Rattle.repair.proofs.Laws.Project.Elimination.{pivot-turn, cleared_from, clear-turn, clear-end}
use Rattle.repair.proofs.Laws.Project.Window.{window-long, window-row, window-entry, window-set, window-exchanged, shaped-exchanged, pivoted}
use Rattle.repair.proofs.Laws.Project.Rows.{rows_long}
use Rattle.repair.proofs.Laws.Project.Displacement.{summed, summed-all, summed_turn, summed-end}

-- the library's exchange is the definition's
pub swap-exchanged : (m : List (List Float)) (i j : ℕ) → i < length m → j < length m → swap m i j ≡ exchanged i j m
swap-exchanged [] i j h g = absurd (omega arith)
swap-exchanged (d ∷ m) i j h g = λ t. set (set (d ∷ m) i (get_d_any (d ∷ m) j d [] g t)) j (get_d_any (d ∷ m) i d [] h t)

-- either is below n
pub cond_below : (b : Bool) (i j n : ℕ) → i < n → j < n → cond b i j < n
cond_below true i j n h g = h
cond_below false i j n h g = g

-- p and the gradients from row i on, each times the last entry of its row
abbrev pub summed_point : ℕ → List (List Float) → List row.Row → Point → ℕ → Point
summed_point n m rows p i = record {
  x = summed (λ g. g.x) (rows_of rows) (window n m) n p.x i;
  y = summed (λ g. g.y) (rows_of rows) (window n m) n p.y i;
  z = summed (λ g. g.z) (rows_of rows) (window n m) n p.z i;
}

-- where a sum begins
abbrev pub minus-zero : Float
minus-zero = fin true 0 (pos 0)

module _ {m : List (List Float)} (s : Shaped m) (n : ℕ) (few : n ≤ 8) where
  -- the corner has n rows
  pub corner-long : length (window n m) ≡ n
  corner-long = window-long n m (omega (arith, s.rows))

  -- an entry of the corner, read with the code's default
  pub corner-entry : (i k : ℕ) → i < n → k ≤ n → get_or (get_or m i []) k nan ≡ entry (window n m) i k
  corner-entry i k h g = window-entry n m i k nan h g (omega (arith, s.columns i (omega arith)))

  -- row i is compared with the best so far
  pub pivot-next : (k best i : ℕ) → k < n → best < n → i < n → {b : Bool} {r : ℕ} → b ≡ smaller_size (get_or (get_or m i []) k nan) (get_or (get_or m best []) k nan)
      → r ≡ cond b best i → pivot (window n m) k r (i + 1) (n - (i + 1)) ≡ pivot (window n m) k best i (n - i)
  pivot-next k best i h g l {b} {r} e c =
      ap (λ (t : ℕ). pivot (window n m) k t (i + 1) (n - (i + 1)))
      (c ∙ ap (λ (t : Bool). cond t best i) (e ∙ (λ t. smaller_size (corner-entry i k l (omega arith) t) (corner-entry best k g (omega arith) t))))
      ∙ pivot-turn (window n m) k best i n l

  -- row i is cleared
  pub clear_next : (k : ℕ) (p : List Float) (i : ℕ) (r : List Float) → i < n → take (n + 1) r ≡ cleared_at k i (take (n + 1) p) (take (n + 1) (get_or m i []))
      → cleared_from k (take (n + 1) p) (i + 1) (window n (set m i r)) ≡ cleared_from k (take (n + 1) p) i (window n m)
  clear_next k p i r h e =
      ap (cleared_from k (take (n + 1) p) (i + 1)) (window-set n m i r h)
      ∙ clear-turn k (take (n + 1) p) (window n m) i (take (n + 1) r) (omega (arith, corner-long))
      (e ∙ ap (cleared_at k i (take (n + 1) p)) (sym (window-row n m i h)))

  -- none is left to clear
  pub clear-last : (k : ℕ) (p : List Float) (i : ℕ) → n ≤ i → cleared_from k (take (n + 1) p) i (window n m) ≡ window n m
  clear-last k p i h = clear-end k (take (n + 1) p) (window n m) i (omega (arith, corner-long))

  -- in one direction, the gradient of row i times the last entry of the matrix's row i is added
  sum-next : (part : Point → Float) (rows : List row.Row) (i : ℕ) (z : row.Row) → length rows ≡ n → i < n → (x : Float) {y : Float}
      → y ≡ x +₆₄ part (get_or rows i z).gradient *₆₄ get_or (get_or m i []) n nan
      → summed part (rows_of rows) (window n m) n y (i + 1) ≡ summed part (rows_of rows) (window n m) n x i
  sum-next part rows i z l h x {y} e =
      ap (λ (t : Float). summed part (rows_of rows) (window n m) n t (i + 1))
      (e ∙ (λ t. x +₆₄ part (sym (get_or-map row_of rows i z) t).gradient *₆₄ corner-entry i n h (omega arith) t))
      ∙ summed_turn part (rows_of rows) (window n m) n x i (row_of z) (omega (arith, rows_long rows, l)) (omega (arith, corner-long))

  -- all gradients are to be added
  pub point-all : (rows : List row.Row) → length rows ≡ n → summed_point n m rows (record { x = minus-zero; y = minus-zero; z = minus-zero }) 0 ≡ displacement (rows_of rows) (window n m)
  point-all rows l =
      λ t. record { x = all (λ g. g.x) t; y = all (λ g. g.y) t; z = all (λ g. g.z) t }
    where
      all : (part : Point → Float) → summed part (rows_of rows) (window n m) n minus-zero 0 ≡ total (products part (rows_of rows) (window n m) (length (rows_of rows)))
      all part = summed-all part (rows_of rows) (window n m) n (rows_long rows ∙ l)

  -- that of row i is added
  pub point-next : (rows : List row.Row) (i : ℕ) (z : row.Row) → length rows ≡ n → i < n → (p : Point) {q : Point}
      → q ≡ scaled_on p (get_or rows i z).gradient (get_or (get_or m i []) n nan) → summed_point n m rows q (i + 1) ≡ summed_point n m rows p i
  point-next rows i z l h p e =
      λ t. record {
        x = sum-next (λ g. g.x) rows i z l h p.x (ap (λ (u : Point). u.x) e) t;
        y = sum-next (λ g. g.y) rows i z l h p.y (ap (λ (u : Point). u.y) e) t;
        z = sum-next (λ g. g.z) rows i z l h p.z (ap (λ (u : Point). u.z) e) t;
      }

  -- none is left to add
  pub point-last : (rows : List row.Row) (i : ℕ) → length rows ≡ n → n ≤ i → (p : Point) → p ≡ summed_point n m rows p i
  point-last rows i l h p =
      λ t. record { x = last (λ g. g.x) p.x t; y = last (λ g. g.y) p.y t; z = last (λ g. g.z) p.z t }
    where
      last : (part : Point → Float) (x : Float) → x ≡ summed part (rows_of rows) (window n m) n x i
      last part x = sym (summed-end part (rows_of rows) (window n m) n x i (omega (arith, rows_long rows, l)))

  -- the pivot of column k is brought into place
  module _ (k best : ℕ) {m₁ : List (List Float)} (h : k < n) (p : (best < n) × (best ≡ pivot (window n m) k k (k + 1) (n - (k + 1)))) (e : m₁ ≡ exchanged k best m) where
    pub exchange-shaped : Shaped m₁
    exchange-shaped = subst Shaped (sym e) (shaped-exchanged s k best (omega arith) (omega (arith, p.0)))

    pub exchange-corner : window n m₁ ≡ pivoted n k (window n m) h
    exchange-corner = ap (window n) e ∙ window-exchanged n m k best h p.0 ∙ ap (λ (t : ℕ). exchanged k t (window n m)) p.1
