-- The area of ranks and vertices: rows listed, sorted, and read again. Assumes nothing.
use Rattle.std.proofs.Common.{◌≡◌, ℕ, zero, suc, ◌+◌, ◌*◌, ◌<◌, ◌≤◌, true, false, leb, List, ◌∷◌, ◌++◌, map, length, drop, replicate, sym, refl, ap, ◌∙◌, ap₂, arith, drop-drop, le-leb, leb-true}
use lib.Ieee.{Float}
use Rattle.geometry.specs.declared.point.Point.{Point}
use Rattle.geometry.specs.declared.bounds.Options.{Options}
use Rattle.geometry.specs.Rank.{rank}
use Rattle.mesh.specs.Words.{zero_point, points_of, zero_words, numbers, flat}
use Rattle.mesh.specs.Sort.{sort}
use Rattle.mesh.specs.inside.Rows.{rows, le_row, fit_rows, sorted_area}
use Rattle.mesh.specs.Group.{rank_of}
use Rattle.mesh.specs.inside.Group.{group_row, group_rows, group_fits, grouped_area, group_row_at}
use Rattle.mesh.specs.inside.Manifold.{filled}
use Rattle.mesh.proofs.Laws.Bools.{and_left, and_right}
use Rattle.mesh.proofs.Laws.Rows.{rows-flat, shape-sort}
use Rattle.mesh.proofs.Laws.Areas.{area-is}
use Rattle.mesh.proofs.Laws.Intake.Reads.{length-points, points-at}
use Rattle.mesh.proofs.Laws.Manifold.Fill.{fill-kept, filled-rows, filled-rest, shape-numbered}

-- ---- room

pub fits-is : (n m : ℕ) → group_fits n m ≡ true → (n ≤ 65536) × (14 * n ≤ m)
unfolding group_fits
fits-is n m h = (leb-true n 65536 (and_left (leb n 65536) (leb (14 * n) m) h), leb-true (14 * n) m (and_right (leb n 65536) (leb (14 * n) m) h))

-- ---- rows listed

map-numbers : (f g : ℕ → List ℕ) (k n : ℕ) → ((j : ℕ) → k ≤ j → j < k + n → f j ≡ g j) → map f (numbers k n) ≡ map g (numbers k n)
unfolding numbers
map-numbers f g k zero h = refl
map-numbers f g k (suc n) h = ap₂ (λ (u : List ℕ) (v : List (List ℕ)). u ∷ v) (h k (omega arith) (omega arith)) (map-numbers f g (k + 1) n (λ j a b. h j (omega arith) (omega arith)))

listed-rows : (o : Options) (fs : List Float) (n : ℕ) → map (group_row_at o fs) (numbers 0 n) ≡ group_rows o (points_of n fs)
unfolding group_row_at group_rows
listed-rows o fs n =
    map-numbers (group_row_at o fs) (λ v. group_row (rank_of o (points_of n fs) v) v) 0 n
    (λ j a b. let l : j < n = omega arith in ap (λ (p : Point). group_row (rank p o) j) (sym (points-at n fs j zero_point l)))
    ∙ ap (λ (k : ℕ). map (λ v. group_row (rank_of o (points_of n fs) v) v) (numbers 0 k)) (sym (length-points n fs))

-- ---- rows sorted

pub grouped-no : (o : Options) (fs : List Float) (n : ℕ) (s : List ℕ) → group_fits n (length s) ≡ false → s ≡ grouped_area o (points_of n fs) s
unfolding grouped_area
grouped-no o fs n s e = rw (length-points n fs, e) refl

module _ (o : Options) (fs : List Float) (n : ℕ) (s₀ s₁ : List ℕ) (fits : group_fits n (length s₀) ≡ true) (e₁ : s₁ ≡ filled (group_row_at o fs) 7 0 n s₀) where
  room : 14 * n ≤ length s₀
  room = (fits-is n (length s₀) fits).1

  long : length s₁ ≡ length s₀
  unfolding group_row_at
  long = (fill-kept (group_row_at o fs) 7 (λ i. refl) 0 s₀ (omega arith) n s₁ (omega (arith, room)) e₁).long

  rows-listed : rows 7 n s₁ ≡ group_rows o (points_of n fs)
  unfolding group_row_at
  rows-listed = filled-rows (group_row_at o fs) 7 (λ i. refl) 0 s₀ (omega arith) n s₁ e₁ ∙ listed-rows o fs n

  rest-kept : drop (n * 7 + n * 7) s₁ ≡ drop (14 * n) s₀
  unfolding group_row_at
  rest-kept =
      let k : n * 7 + n * 7 ≡ 0 + 7 * n + n * 7 = omega arith in
      let m : 0 + 7 * n + n * 7 ≡ 14 * n = omega arith in
      ap (λ (u : ℕ). drop u s₁) k ∙ sym (drop-drop (n * 7) (0 + 7 * n) s₁)
      ∙ ap (drop (n * 7)) (filled-rest (group_row_at o fs) 7 (λ i. refl) 0 s₀ (omega arith) n s₁ e₁)
      ∙ drop-drop (n * 7) (0 + 7 * n) s₀ ∙ ap (λ (u : ℕ). drop u s₀) m

  pub grouped-yes : (s₂ : List ℕ) → s₂ ≡ sorted_area n 7 s₁ → s₂ ≡ grouped_area o (points_of n fs) s₀
  unfolding grouped_area fit_rows
  grouped-yes s₂ e₂ =
      let k : n * 7 ≡ 7 * n = omega arith in
      e₂ ∙ area-is n 7 s₁ (le-leb ((n + n) * 7) (length s₁) (omega (arith, room, long)))
      ∙ ap₂ (λ (u : List (List ℕ)) (v : List ℕ). flat (sort le_row u) ++ v) rows-listed
      (ap₂ (λ (i : ℕ) (l : List ℕ). replicate i 0 ++ l) k rest-kept)
      ∙ sym (rw (length-points n fs, fits) refl)

-- the rows, read again
pub grouped-rows : (o : Options) (ps : List Point) (s : List ℕ) → group_fits (length ps) (length s) ≡ true → rows 7 (length ps) (grouped_area o ps s) ≡ sort le_row (group_rows o ps)
unfolding grouped_area group_rows
grouped-rows o ps s e =
    rw e (rows-flat (shape-sort (shape-numbered (λ v. group_row (rank_of o ps v) v) 7 (λ j. refl) 0 (length ps))) (zero_words (7 * length ps) ++ drop (14 * length ps) s))
