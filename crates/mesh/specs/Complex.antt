-- The complex of a list of elements, and its alternating count.
-- An element is the list of its vertices. The complex of a list of elements: each set of vertices that lies within some element.
-- Assumes nothing.
use Rattle.std.specs.Prelude.{◌≡◌, ℕ, zero, suc, ◌+◌, Bool, true, false, cond, ◌&&◌, ◌||◌, List, [], ◌∷◌, ◌++◌, map, length, ℤ, ◌==◌}
use Rattle.std.proofs.Math.IntN.{sub_ℕ}

-- is x a vertex of e
abbrev pub mem : ℕ → List ℕ → Bool
mem x [] = false
mem x (y ∷ ys) = x == y || mem x ys

-- are all vertices of σ vertices of e
abbrev pub sub : List ℕ → List ℕ → Bool
sub [] e = true
sub (x ∷ σ) e = mem x e && sub σ e

-- does σ lie within some element
abbrev pub within : List ℕ → List (List ℕ) → Bool
within σ [] = false
within σ (e ∷ es) = sub σ e || within σ es

-- those that pass the test
abbrev pub keep {ℓ} : {A : Type ℓ} → (A → Bool) → List A → List A
keep p [] = []
keep p (x ∷ xs) = cond (p x) (x ∷ keep p xs) (keep p xs)

-- all subsets of k of the vertices vs
abbrev pub choose : ℕ → List ℕ → List (List ℕ)
choose zero vs = [] ∷ []
choose (suc k) [] = []
choose (suc k) (v ∷ vs) = choose (suc k) vs ++ map (λ σ. v ∷ σ) (choose k vs)

-- the vertices below n
abbrev pub up_to : ℕ → List ℕ
up_to zero = []
up_to (suc n) = n ∷ up_to n

-- of all sets of k vertices below n, the number that lie within some element
unfoldable pub faces : ℕ → ℕ → List (List ℕ) → ℕ
faces k n es = length (keep (λ σ. within σ es) (choose k (up_to n)))

-- V - E + F - T itself
abbrev pub alternating : ℕ → List (List ℕ) → ℤ
alternating n es = sub_ℕ (faces 1 n es + faces 3 n es) (faces 2 n es + length es)

-- no vertex twice
abbrev pub Nodup : List ℕ → Type 0
Nodup [] = Unit {0}
Nodup (x ∷ xs) = (mem x xs ≡ false) × Nodup xs

-- all vertices of σ are vertices of e
abbrev pub Sub : List ℕ → List ℕ → Type 0
Sub σ e = (x : ℕ) → mem x σ ≡ true → mem x e ≡ true
