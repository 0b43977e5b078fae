-- Finite sets as lists, in which repetition and order do not count, of values of any type under a test `same`. Definitions only.
use Rattle.std.specs.Prelude.{ℕ, Bool, false, ◌&&◌, ◌||◌, List, [], ◌∷◌, length}
use Rattle.mesh.specs.Complex.{keep}
use Rattle.mesh.specs.Tests.{every}

module _ {A : Type 0} (same : A → A → Bool) where
  -- is x one of the values
  abbrev pub among : A → List A → Bool
  among x [] = false
  among x (y ∷ ys) = same x y || among x ys

  -- the values that both sets have
  abbrev pub both : List A → List A → List A
  both xs ys = keep (λ x. among x ys) xs

  -- each value of either set is in the other
  abbrev pub same_set : List A → List A → Bool
  same_set xs ys = every (λ x. among x ys) xs && every (λ y. among y xs) ys

  -- how often x stands in a list
  abbrev pub times : A → List A → ℕ
  times x ys = length (keep (same x) ys)
