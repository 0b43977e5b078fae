-- Properness, and when two lists of elements have the same complex or the same count. For contracts of private functions and for proofs;
-- definitions only.
use Rattle.std.specs.Prelude.{◌≡◌, ℕ, ◌+◌, ◌<◌, true, false, List, [], ◌∷◌, length}
use mathlib.Core.List.{Memᴰ}
use Rattle.mesh.specs.Complex.{keep, sub, faces, Nodup, mem, Sub, within}

-- the number of elements that contain σ
unfoldable pub star : List ℕ → List (List ℕ) → ℕ
star σ es = length (keep (sub σ) es)

-- V - E + F - T is the same for two lists of elements, with vertices below n and below m
abbrev pub SameCount : ℕ → List (List ℕ) → ℕ → List (List ℕ) → Type 0
SameCount n es m fs =
    faces 1 n es + faces 3 n es + (faces 2 m fs + length fs) ≡ faces 1 m fs + faces 3 m fs + (faces 2 n es + length es)

-- four different vertices below n
pub record IsElement (n : ℕ) (e : List ℕ) : Type 0 where
  pub four : length e ≡ 4
  pub distinct : Nodup e
  pub below : (x : ℕ) → mem x e ≡ true → x < n

-- each element has four different vertices, and no two have the same
abbrev pub Proper : ℕ → List (List ℕ) → Type 0
Proper n [] = Unit {0}
Proper n (e ∷ es) = IsElement n e × ((f : List ℕ) → Memᴰ f es → Sub e f → Sub f e → ⊥) × Proper n es

-- two lists of elements with the same complex, as where one is the other in another order, and the vertices of its elements too
abbrev pub SameComplex : List (List ℕ) → List (List ℕ) → Type 0
SameComplex es fs = ((e : List ℕ) → Memᴰ e es → within e fs ≡ true) × ((f : List ℕ) → Memᴰ f fs → within f es ≡ true)

-- a list of sets of k vertices below n, none of which is there twice
abbrev pub Listed : ℕ → ℕ → List (List ℕ) → Type 0
Listed k n [] = Unit {0}
Listed k n (σ ∷ ps) = (length σ ≡ k) × Nodup σ × ((x : ℕ) → mem x σ ≡ true → x < n) × (within σ ps ≡ false) × Listed k n ps
