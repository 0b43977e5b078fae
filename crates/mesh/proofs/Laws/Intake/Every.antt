-- Elements, or points, tested one by one by their numbers: the whole list is. Assumes nothing.
use Rattle.std.proofs.Common.{◌≡◌, ℕ, zero, suc, ◌+◌, ◌<◌, Bool, ◌&&◌, List, length, get_or, drop, sym, ap, ◌∙◌, add-one, arith, drop_of_length-le, drop-cons}
use Rattle.std.specs.List.{range_with_len, list_all}
use lib.Ieee.{Float}
use Rattle.geometry.specs.declared.point.Point.{Point}
use Rattle.mesh.specs.declared.element.Tet.{Tet}
use Rattle.mesh.specs.Tests.{every}
use Rattle.mesh.specs.Words.{zero_point, points_of, point_in}
use Rattle.mesh.specs.Element.{tet, tets}
use Rattle.mesh.specs.inside.Intake.{tet_at}
use Rattle.mesh.proofs.Laws.Intake.Reads.{length-tets, tets-at, length-points, points-at}

-- ---- a list of n values, read by index

module _ {A : Type 0} (p : A → Bool) (l : List A) (n : ℕ) (at : ℕ → A) (long : length l ≡ n) (reads : (i : ℕ) → i < n → (z : A) → get_or l i z ≡ at i) where
  -- the element i and what is left behind it
  every-at : (i : ℕ) (z : A) → i < n → every p (drop i l) ≡ (p (at i) && every p (drop (i + 1) l))
  every-at i z h =
      ap (every p) (drop-cons l i z (omega (arith, long))) ∙ ap (λ (x : A). p x && every p (drop (suc i) l)) (reads i h z)
      ∙ ap (λ (k : ℕ). p (at i) && every p (drop k l)) (sym (add-one i))

  -- the numbers from m on, tested in turn
  every-numbers : (k m : ℕ) (z : A) → m + k ≡ n → list_all (λ i. p (at i)) (range_with_len m k) ≡ every p (drop m l)
  every-numbers zero m z e = sym (ap (every p) (drop_of_length-le l {i = m} (omega (arith, long))))
  every-numbers (suc k) m z e = ap (λ (b : Bool). p (at m) && b) (every-numbers k (m + 1) z (omega arith)) ∙ sym (every-at m z (omega arith))

-- ---- elements

-- each number below n tested
pub tets-all : (p : Tet → Bool) (n : ℕ) (s : List ℕ) → list_all (λ i. p (tet_at s i)) (range_with_len 0 n) ≡ every p (tets n s)
tets-all p n s = every-numbers p (tets n s) n (tet_at s) (length-tets n s) (λ i h z. tets-at n s i z h) n 0 (tet 0 0 0 0) (omega arith)

-- ---- points

-- each number below n tested
pub points-all : (p : Point → Bool) (n : ℕ) (s : List Float) → list_all (λ i. p (point_in s i)) (range_with_len 0 n) ≡ every p (points_of n s)
points-all p n s = every-numbers p (points_of n s) n (point_in s) (length-points n s) (λ i h z. points-at n s i z h) n 0 zero_point (omega arith)
