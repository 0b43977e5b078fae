-- The neighbours' mean: the sums so far and the points left give the sums of all. Assumes nothing.
use mathlib.Core.Path.{◌≡◌, sym, ap, ap₂, ◌∙◌}
use mathlib.Core.Bool.{true}
use mathlib.Core.List.{List, map}
use Prim.Native.Nat.{ℕ, ◌+◌, ◌^◌, ◌≤◌, ◌<◌}
use native.Mathlib.Nat.{lt_of_le_of_lt}
use native.Mathlib.Numerals.{add-one}
use lib.Dec.{T, lit<}
use lib.IntN.{pos}
use lib.Ieee.{fin, binary64, in_float}
use lib.ListN.{length, drop, get_or, drop_of_length-le, length-map}
use lib.Seq.{drop-cons}
use Rattle.geometry.specs.declared.point.Point.{Point}
use Rattle.geometry.specs.Float.{total_from, total}
use Rattle.geometry.proofs.Laws.Rank.Away.{in-float}
use Rattle.repair.specs.Smooth.{mean}
use Rattle.repair.specs.inside.smooth.Candidates.{sum, divided}

-- n is exact as an f64
pub count-exact : (n : ℕ) → n ≤ 4096 → T (in_float binary64 (pos n))
count-exact n h = in-float n (lt_of_le_of_lt h (lit< {m = 4096} {n = 2 ^ 52} tt))

-- s and the points, added one after the other
abbrev pub sum_from : Point → List Point → Point
sum_from s ps = record { x = total_from s.x (map (λ p. p.x) ps); y = total_from s.y (map (λ p. p.y) ps); z = total_from s.z (map (λ p. p.z) ps) }

-- what the sums begin at: -0 changes no first term
abbrev pub minus_zero : Point
minus_zero = record { x = fin true 0 (pos 0); y = fin true 0 (pos 0); z = fin true 0 (pos 0) }

-- s and the points from the i-th on are the whole
abbrev pub Summed : (ℕ → Point) → List ℕ → ℕ → Point → Type 0
Summed f l i s = sum_from s (map f (drop i l)) ≡ sum_from minus_zero (map f l)

module _ (f : ℕ → Point) (l : List ℕ) where
  pub sum-turn : (i : ℕ) (s t p : Point) (z : ℕ) → i < length l → p ≡ f (get_or l i z) → t ≡ sum s p → Summed f l i s → Summed f l (i + 1) t
  unfolding total_from
  sum-turn i s t p z h e g inv =
      ap₂ (λ (u : Point) (k : ℕ). sum_from u (map f (drop k l))) (g ∙ ap (sum s) e) (add-one i)
      ∙ sym (ap (λ (u : List ℕ). sum_from s (map f u)) (drop-cons l i z h))
      ∙ inv

  pub sum-end : (i : ℕ) (s r : Point) → length l ≤ i → r ≡ divided s (length l) → Summed f l i s → r ≡ mean (map f l)
  unfolding total_from total
  sum-end i s r h e inv =
      e ∙ ap (λ (u : Point). divided u (length l)) (sym (ap (λ (u : List ℕ). sum_from s (map f u)) (drop_of_length-le l {i = i} h)) ∙ inv)
      ∙ ap (divided (sum_from minus_zero (map f l))) (sym (length-map l f))
